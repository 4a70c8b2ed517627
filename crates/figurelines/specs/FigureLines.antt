-- The figures of a sheet as lines of text. Document 02, L1: "prints, after the verdict line, the figures with their records [..]. A line reads
-- `section 3 record 0 figure -600`, words taken as signed." Assumes nothing.
use Rattle.std.specs.Prelude.{ℕ, ◌≡◌, refl, List, [], ◌∷◌, ◌++◌, map}
use Rattle.sheet.specs.Words.{Sheet}
use Rattle.profile.specs.Verdict.{verdict}
use Rattle.values.specs.Signed.{signed_of}
use Rattle.text.specs.Bytes.{ascii, join}
use Rattle.text.specs.Decimal.{spelled, decimal, signed_decimal}
use Rattle.verdicts.specs.VerdictLine.{verdict_line}
use Rattle.figures.specs.declared.Figure.{Figure}
use Rattle.figures.specs.declared.FigureNumber.{FigureNumber}
use Rattle.figures.specs.declared.FigureNumber.TheVariants.{Word, Derived}
use Rattle.figures.specs.Clashes.{printed}
use Rattle.figures.specs.Figures.{figures}

unfoldable pub figure_line : Figure → List ℕ
figure_line x =
    join (ascii "section " ∷ decimal x.section ∷ ascii " record " ∷ decimal x.index ∷ ascii " figure " ∷ signed_decimal (printed x.number) ∷ ascii "\n" ∷ [])

-- the verdict line, then a line for each figure; `langs` is the list of languages lent beside the sheet
unfoldable pub figures_text : Sheet → List ℕ → List ℕ
figures_text s langs = verdict_line (verdict s langs) ++ join (map figure_line (figures s langs))

-- some lines, computed
abbrev line : ℕ → ℕ → FigureNumber → Figure
line section index number = record { section = section; index = index; number = number }

pub figure_lines :
    map figure_line (line 3 0 (Word 64936) ∷ line 7 4677 (Word 32768) ∷ line 3 5 (Word 32767) ∷ line 3 83 (Derived 28) ∷ [])
    ≡ ascii "section 3 record 0 figure -600\n"
    ∷ ascii "section 7 record 4677 figure -32768\n"
    ∷ ascii "section 3 record 5 figure 32767\n"
    ∷ ascii "section 3 record 83 figure 28\n"
    ∷ []
unfolding figure_line join decimal spelled signed_decimal signed_of
figure_lines = refl
