-- By the marks of the object's span, or by search. Assumes nothing.
use Rattle.std.proofs.Common.{ℕ, ◌+◌, ◌≡◌, not, eqb, get_or, length, ap, ap₂, ◌∙◌, arith}
use Rattle.profile.specs.Counting.{any}
use Rattle.sheet.specs.Words.{sheet_of}
use Rattle.tables.proofs.TableLaws.{any_below, part_place, names_marked}
use Rattle.tables.proofs.reads.names_set_by.Goals as goal

pub returns-in-Some : goal.returns-in-Some
returns-in-Some c = λ right.
    let a = c.args in let sets = a.sets.now in let span = c.in-Some.places.now in let from = c.from-from in let n = c.from in let part = c.in-Some.ensures.lookup.0 in
    let long : length span ≡ n.result = omega (arith, part.3) in
    let place = part_place sets span from.result (from.result + n.result) part.2 in
    c.any_marked.ensures
    ∙ ap (any (λ k. not (eqb (get_or span k 0) 0))) long
    ∙ any_below (λ k. not (eqb (get_or span k 0) 0)) (λ k. not (eqb (get_or sets (from.result + k) 0) 0)) n.result (λ k l. ap (λ (m : ℕ). not (eqb m 0)) (place k (omega (arith, l))))
    ∙ ap₂ (λ (f m : ℕ). any (λ k. not (eqb (get_or sets (f + k) 0) 0)) m) (from.ensures ∙ c.at-span.ensures.first) (n.ensures ∙ c.at-span.ensures.count)
    ∙ names_marked (sheet_of a.s.now) a.p a.o sets right (omega (arith, part.1, from.ensures, n.ensures, c.at-span.ensures.first, c.at-span.ensures.count))
