-- With a pack or without. Assumes nothing.
use Rattle.std.proofs.Common.{sym, ◌∙◌}
use Rattle.sheet.specs.Words.{sheet_of}
use Rattle.screen.proofs.ObjectLaws.{children_kept, tracks_kept}
use Rattle.screen.proofs.object_words.ObjectWords.source_breaks.Goals as goal

pub returns-then-pack : goal.returns-then-pack
returns-then-pack c =
    let a = c.args.self.now in λ e. children_kept (sheet_of a.s.now) a.o (sym c.pack-pack.ensures ∙ c.if-pack.true) (sym c.children_break.ensures ∙ e)

pub returns : goal.returns
returns c =
    let a = c.args.self.now in λ e. tracks_kept (sheet_of a.s.now) a.o c.pack-pack.result c.pack-pack.ensures c.if-pack.false (sym c.tracks_break.ensures ∙ e)
