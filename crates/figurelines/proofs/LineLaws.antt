-- The lines of figures, one behind the other, and that they have room. Assumes nothing.
use Rattle.std.proofs.Common.{◌*◌, ◌≤◌, List, [], ◌∷◌, ℕ, length, map, length-append, arith}
use Rattle.figures.specs.declared.Figure.{Figure}
use Rattle.figures.specs.Clashes.{printed}
use Rattle.text.specs.Bytes.{join}
use Rattle.text.proofs.DecimalLaws.{decimal_fits, signed_fits}
use Rattle.text.proofs.BytesLaws.{join_length, none_length}
use Rattle.sheet.specs.Words.{Sheet}
use Rattle.profile.specs.Verdict.{verdict}
use Rattle.verdicts.proofs.LengthLaws.{verdict_fits}
use Rattle.figures.specs.Lists.{most_figures}
use Rattle.figures.specs.Figures.{figures}
use Rattle.figurelines.specs.FigureLines.{figure_line, figures_text}

-- a line has at most 86 bytes
pub line_fits : (x : Figure) → length (figure_line x) ≤ 86
unfolding figure_line
line_fits x =
    simp (join_length, none_length) (omega (arith, decimal_fits x.section, decimal_fits x.index, signed_fits (printed x.number)))

pub lines_fit : (xs : List Figure) → length (join (map figure_line xs)) ≤ 86 * length xs
lines_fit [] = simp none_length (omega arith)
lines_fit (x ∷ xs) = simp join_length (omega (arith, line_fits x, lines_fit xs))

-- the text of a sheet has room
pub text_fits : (s : Sheet) (langs : List ℕ) → length (figures s langs) ≤ most_figures → length (figures_text s langs) ≤ 2048
unfolding figures_text
text_fits s langs h = simp length-append (omega (arith, verdict_fits (verdict s langs), lines_fit (figures s langs)))
