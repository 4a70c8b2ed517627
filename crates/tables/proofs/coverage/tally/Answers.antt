use Rattle.std.proofs.Common.{rules, ℕ, ◌+◌, ◌%◌, eqb, ap, ◌∙◌, arith}
use Rattle.profile.specs.Counting.{how_many}
use Rattle.profile.proofs.CountingLaws.{how_many_le}
use Rattle.tables.specs.steps.Marks.{repeat}
use Rattle.tables.proofs.CoverLaws.{counted_up}
use Rattle.tables.proofs.coverage.tally.Goals as goal

pub returns : goal.returns
returns g c = λ f h.
    let up = λ (c : ℕ). (c + 1) % 65536 in let counted = c.mark_each.ensures f h up (λ i r b q. search rules) in let times = λ (x : ℕ). how_many (λ j. eqb (f j) x) c.args.n in
    (counted.0, λ x l. counted.1 x l ∙ ap (repeat up (times x)) (c.requires.noughts x (rw counted.0 at l)) ∙ counted_up (times x) (omega (arith, how_many_le (λ j. eqb (f j) x) c.args.n)))
