-- Each list or span in turn. Assumes nothing.
use Rattle.std.proofs.Common.{sym, ◌∙◌}
use Rattle.sheet.specs.Words.{sheet_of}
use Rattle.screen.proofs.ObjectLaws.{lists_in_turn}
use Rattle.screen.proofs.object_words.ObjectWords.lists_break.Goals as goal

pub returns : goal.returns
returns c =
    λ e.
    lists_in_turn (sheet_of c.args.self.now.s.now) c.args.self.now.o
    (rw (c.span.ensures.first, c.span.ensures.count, c.count-many.ensures) at (sym c.is_beyond.ensures ∙ c.if-is_beyond.false))
    (rw (c.span-2.ensures.first, c.span-2.ensures.count, c.count-many.ensures) at (sym c.list_breaks.ensures ∙ c.if-list_breaks.false))
    (rw (c.span-3.ensures.first, c.span-3.ensures.count, c.count-many.ensures) at (sym c.list_breaks-2.ensures ∙ c.if-list_breaks-2.false))
    (rw (c.span-4.ensures.first, c.span-4.ensures.count, c.count.ensures) at (sym c.list_breaks-3.ensures ∙ e))
