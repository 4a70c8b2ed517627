-- On a table of noughts. Assumes nothing.
use Rattle.std.proofs.Common.{rules, ℕ, ap, ◌∙◌}
use Rattle.sheet.specs.Words.{sheet_of}
use Rattle.tables.specs.declared.Naming.TheVariants.{Included}
use Rattle.tables.specs.steps.Marks.{repeat, times_by}
use Rattle.tables.proofs.TableLaws.{included_marked}
use Rattle.tables.proofs.marks.mark_included.Goals as goal

pub returns : goal.returns
returns c =
    let a = c.args in let clear = c.clear in let marked = c.mark_objects.ensures (λ (c : ℕ). 1) (λ i r b q. search rules) in let s = sheet_of a.s.now in (
      marked.0 ∙ clear.ensures.0,
      λ x l. marked.1 x l ∙ ap (repeat (λ (c : ℕ). 1) (times_by s Included a.p x)) (clear.ensures.1 x (rw marked.0 at l)) ∙ included_marked s a.p x,
    )
