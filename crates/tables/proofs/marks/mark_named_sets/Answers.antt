-- On a table of noughts. Assumes nothing.
use Rattle.std.proofs.Common.{rules, ℕ, ap, ◌∙◌}
use Rattle.sheet.specs.Words.{sheet_of}
use Rattle.tables.specs.declared.Naming.TheVariants.{SetLists}
use Rattle.tables.specs.steps.Marks.{repeat, times_by}
use Rattle.tables.proofs.TableLaws.{set_marked}
use Rattle.tables.proofs.marks.mark_named_sets.Goals as goal

pub returns : goal.returns
returns c =
    let a = c.args in let marked = c.mark_items.ensures (λ (c : ℕ). 1) (λ i r b q. search rules) in let s = sheet_of a.s.now in (
      marked.0,
      λ noughts x l. marked.1 x l ∙ ap (repeat (λ (c : ℕ). 1) (times_by s SetLists a.p x)) (noughts x (rw marked.0 at l)) ∙ set_marked s a.p x,
    )
