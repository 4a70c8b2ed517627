-- The words are those of the content. Assumes nothing.
use Rattle.std.proofs.Common.{sym, ◌∙◌}
use borrow.Author.Tests.{lt-leb}
use Rattle.sheet.specs.Words.{sheet_of}
use Rattle.lists.proofs.SpeechLaws.{content_kept}
use Rattle.lists.proofs.speech.content_breaks.Goals as goal

pub returns : goal.returns
returns c =
    λ e.
    let in_section = rw c.count.ensures at (lt-leb c.count.result c.word_at.result c.if-count-word_at.false) in
    content_kept (sheet_of c.args.s.now) c.args.langs.now c.args.k c.record_at-at.ensures c.at-speech.ensures.language c.word_at.ensures c.at-speech.ensures.first c.at-speech.ensures.count c.at-speech.ensures.loudness
    (sym c.breaks.ensures ∙ e) in_section
