-- The words are those of the programme. Assumes nothing.
use Rattle.std.proofs.Common.{sym, ◌∙◌}
use Rattle.profile.proofs.BoolLaws.{or_none}
use Rattle.sheet.specs.Words.{sheet_of}
use Rattle.lists.proofs.SpeechLaws.{programme_kept}
use Rattle.lists.proofs.speech.programme_breaks.Goals as goal

pub returns : goal.returns
returns c =
    λ e.
    let p = or_none c.breaks.result c.programme_lists_break.result e in
    programme_kept (sheet_of c.args.s.now) c.args.langs.now c.args.k c.record_at-at.ensures c.at-speech.ensures.language c.span_at.ensures.first c.span_at.ensures.count c.span_at-2.ensures.first c.span_at-2.ensures.count
    c.at-speech.ensures.first c.at-speech.ensures.count c.at-speech.ensures.loudness
    (sym c.breaks.ensures ∙ p.0) (sym c.programme_lists_break.ensures ∙ p.1)
