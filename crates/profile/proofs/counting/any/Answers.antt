-- What the library tells of the numbers of the range. Assumes nothing.
use Rattle.std.proofs.Common.{true, false, rules, tests, ◌<◌, ◌≡◌, refl, sym, arith}
use Rattle.std.proofs.lemmas.Iterator.{cases_from_any, YieldsList-from_range}
use Rattle.profile.proofs.RangeLaws.{is_any}
use Rattle.profile.proofs.counting.any.Goals as goal

pub returns : goal.returns
returns g c = λ p h.
    let n = c.args.n in
    is_any p n c.any.result (cases_from_any _ _ c.any.result (λ x. x < n → p x ≡ true) (λ x. x < n → p x ≡ false) c.any.ensures.ran (YieldsList-from_range 0 n n refl (omega arith)) (λ x q k l. sym (h x true l (search (rules, tests)))) (λ x q k. (search rules, λ l. sym (h x false l (search (rules, tests))))))
