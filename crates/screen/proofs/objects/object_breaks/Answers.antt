-- Each part is its callee's. Assumes nothing.
use Rattle.std.proofs.Common.{sym, ◌∙◌}
use Rattle.sheet.specs.Words.{sheet_of}
use Rattle.screen.proofs.NoughtLaws.{named_once}
use Rattle.screen.proofs.ObjectLaws.{object_kept, plain_kept}
use Rattle.screen.proofs.objects.object_breaks.Goals as goal

pub returns-then-is_plain : goal.returns-then-is_plain
returns-then-is_plain c =
    λ e named tabled.
    let a = c.args in let s = sheet_of a.s.now in let object = c.new-object.ensures in
    let once = c.named_once.ensures c.if-not-named_once.false in
    let lists = rw (object.sheet, object.object) at (c.lists_break.ensures c.if-lists_break.false) in
    let source = rw (object.sheet, object.object) at (c.source_breaks.ensures c.if-source_breaks.false) in
    let rest = plain_kept s a.o (rw (object.sheet, object.object) at (sym c.is_plain.ensures ∙ c.if-is_plain.true)) in
    object_kept s a.o lists source rest (named_once s a.named.now a.o named once.0 once.1)

pub returns : goal.returns
returns c =
    λ e named tabled.
    let a = c.args in let s = sheet_of a.s.now in let object = c.new-object.ensures in
    let once = c.named_once.ensures c.if-not-named_once.false in
    let lists = rw (object.sheet, object.object) at (c.lists_break.ensures c.if-lists_break.false) in
    let source = rw (object.sheet, object.object) at (c.source_breaks.ensures c.if-source_breaks.false) in
    let rest = rw (object.sheet, object.object) at (c.values_or_complements_break.ensures e (rw object.sheet tabled)) in
    object_kept s a.o lists source rest (named_once s a.named.now a.o named once.0 once.1)
