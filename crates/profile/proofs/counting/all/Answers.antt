-- What the library tells of the numbers of the range. Assumes nothing.
use Rattle.std.proofs.Common.{true, false, rules, tests, ◌<◌, ◌≡◌, refl, sym, arith}
use Rattle.std.proofs.lemmas.Iterator.{cases_from_all, YieldsList-from_range}
use Rattle.profile.proofs.RangeLaws.{each_below, is_every}
use Rattle.profile.proofs.counting.all.Goals as goal

pub returns-clause-computed : goal.returns-clause-computed
returns-clause-computed g c = λ p h.
    let n = c.args.n in
    is_every p n c.all.result (cases_from_all _ _ c.all.result (λ x. x < n → p x ≡ true) (λ x. x < n → p x ≡ false) c.all.ensures.ran (YieldsList-from_range 0 n n refl (omega arith)) (λ x q k. (search rules, λ l. sym (h x true l (search (rules, tests))))) (λ x q k l. sym (h x false l (search (rules, tests)))))

pub returns-clause-each : goal.returns-clause-each
returns-clause-each g c = λ e.
    let n = c.args.n in
    let d = cases_from_all _ _ c.all.result (λ x. goal.F-post g c.args.test x true) (λ x. goal.F-post g c.args.test x false) c.all.ensures.ran (YieldsList-from_range 0 n n refl (omega arith)) (λ x q k. search (rules, tests)) (λ x q k. search (rules, tests)) in
    each_below (λ x. goal.F-post g c.args.test x true) n (rw e at d)
