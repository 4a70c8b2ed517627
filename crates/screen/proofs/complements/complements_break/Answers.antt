-- Without complements there is nothing to break. Assumes nothing.
use Rattle.std.proofs.Common.{sym, ◌∙◌}
use Rattle.sheet.specs.Words.{sheet_of}
use Rattle.sheet.specs.Layout.{entry, reference}
use Rattle.lists.specs.steps.Entries.{entry_at}
use Rattle.screen.proofs.ObjectLaws.{no_complements, complements_kept_lem}
use Rattle.screen.proofs.complements.complements_break.Goals as goal

pub returns-then-list-eq0 : goal.returns-then-list-eq0
returns-then-list-eq0 c =
    let a = c.args in
    λ e t. no_complements (sheet_of a.s.now) a.o (sym (rw (c.new-object.ensures.sheet, c.new-object.ensures.object) at c.span-list.ensures.count) ∙ c.if-list-eq0.true)

pub returns : goal.returns
unfolding entry_at entry reference
returns c =
    let a = c.args in
    λ e t.
    complements_kept_lem (sheet_of a.s.now) a.o
    (rw (c.entries.ensures.base, c.entries.ensures.list, c.span-list.ensures.first, c.span-list.ensures.count, c.new-object.ensures.sheet, c.new-object.ensures.object) at (sym (c.any_complement_breaks.ensures (rw c.new-object.ensures.sheet t)) ∙ e))
