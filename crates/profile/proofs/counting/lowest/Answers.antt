-- What the library tells of the numbers of the range. Assumes nothing.
use Rattle.std.proofs.Common.{true, false, rules, tests, ◌<◌, ◌≡◌, sym, ◌∙◌}
use Rattle.std.proofs.lemmas.Iterator.{first_from_Range}
use Rattle.profile.proofs.RangeLaws.{is_lowest}
use Rattle.profile.proofs.counting.lowest.Goals as goal

pub returns : goal.returns
returns g c = λ p h.
    let n = c.args.n in
    c.unwrap_or.ensures ∙ is_lowest p n c.find.result (first_from_Range _ _ _ _ (λ i. i < n → p i ≡ true) (λ i. i < n → p i ≡ false) c.find.ensures.ran (λ x q k l. sym (h x true l (search (rules, tests)))) (λ x q k. (search rules, λ l. sym (h x false l (search (rules, tests))))))
