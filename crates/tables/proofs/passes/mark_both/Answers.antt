-- Nothing to mark, or all of it, in each table. Assumes nothing.
use Rattle.std.proofs.Common.{rules, suc, ◌≡◌, refl, sym, ◌∙◌}
use Rattle.sheet.specs.Words.{sheet_of}
use Rattle.profile.specs.Counting.{how_many}
use Rattle.tables.specs.steps.Namings.{items}
use Rattle.tables.specs.steps.Marks.{counted_once, first_stored, repeat, times_by}
use Rattle.tables.proofs.passes.mark_both.Goals as goal

pub returns-then-items-ne0 : goal.returns-then-items-ne0
returns-then-items-ne0 c = (c.mark_items.ensures counted_once (λ i r b q. search rules), c.mark_items-then-items-ne0.ensures (first_stored (suc c.args.q)) (λ i r b q. search rules))

pub returns-else-items-ne0 : goal.returns-else-items-ne0
unfolding times_by how_many repeat
returns-else-items-ne0 c =
    let a = c.args in let e : items (sheet_of a.s.now) a.kind a.q ≡ 0 = sym c.items.ensures ∙ c.if-items-ne0.false in
    ((refl, rw e (λ x l. refl)), (refl, rw e (λ x l. refl)))
