-- The line of the verdict, the lines of the figures behind it, and their room. Assumes nothing.
use Rattle.std.proofs.Common.{◌≡◌, ◌∙◌, arith}
use Rattle.sheet.specs.Words.{words, sheet_of}
use Rattle.checker.specs.Checked.{checked}
use Rattle.figures.specs.Figures.{figures}
use Rattle.figures.proofs.MostLaws.{figures_most}
use Rattle.figures.proofs.GivenLaws.{first_given, given_list}
use Rattle.text.proofs.BufferLaws.{appends_more, appends_fills}
use Rattle.figurelines.specs.FigureLines.{figures_text}
use Rattle.figurelines.proofs.LineLaws.{text_fits}
use Rattle.figurelines.proofs.figures_text.Goals as goal

pub returns : goal.returns
unfolding figures checked figures_text
returns c =
    let s = sheet_of c.args.sheet.now in
    let langs = words c.args.langs.now in
    let given : c.as_slice.result.now ≡ figures s langs =
    c.as_slice.ensures
    ∙ given_list (figures s langs) c.figures_by-given.result (rw (c.figures_by-given.ensures, c.check-verdict.ensures) (first_given (figures s langs) (figures_most s langs))) in
    appends_fills _ _ _ _ c.new-text.ensures.same_bytes c.new-text.ensures.empty
    (appends_more _ _ _ _ _ (rw c.check-verdict.ensures at c.put_verdict.ensures) (rw given at c.put_figures.ensures))
    (omega (arith, text_fits s langs (figures_most s langs)))
