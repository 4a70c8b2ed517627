-- `sheetfigures` reads no more than 65,536 bytes of its input and 131,074 bytes of its list of languages: what follows them does not change
-- what it prints. "33, tested before rule 1 with the header as its place, the lent list isn't strictly rising"; "1. The header: the sheet is
-- [..] over 65,534 bytes". A refusal by one of these rules has no figures. Assumes nothing.
use Rattle.std.proofs.Common.{◌≡◌, ℕ, true, false, ◌<◌, ◌≤◌, refl, List, [], ◌++◌, length, append-nil, map, take, get_or, ap, ◌∙◌, sym, arith}
use lib.Seq.{length-take-le}
use Rattle.sheet.specs.Words.{Sheet, words, sheet_of}
use Rattle.profile.specs.declared.Verdict.TheVariants.{Broken}
use Rattle.profile.specs.declared.Place.TheVariants.{Header}
use Rattle.profile.specs.Languages.{is_rising}
use Rattle.profile.specs.Verdict.{verdict}
use Rattle.text.specs.Bytes.{join}
use Rattle.verdicts.specs.VerdictLine.{verdict_line}
use Rattle.profile.proofs.HeaderLaws.{not_rising}
use Rattle.verdicts.proofs.LongInput.{too_long, cut_list}
use Rattle.figures.specs.Figures.{figures, figures_by, figures_of}
use Rattle.figurelines.specs.FigureLines.{figure_line, figures_text}

-- where a refusal has no figures the text is its line
only_line : (s : Sheet) (langs : List ℕ) (rule : ℕ) → verdict s langs ≡ Broken rule Header → figures_of s rule Header ≡ [] → figures_text s langs ≡ verdict_line (Broken rule Header)
unfolding figures_text figures figures_by join
only_line s langs rule e none = rw (e, none, append-nil (verdict_line (Broken rule Header))) refl

-- the text of a sheet that is too long is the line of rule 1, or of rule 33 where the list does not rise
line_1 : (s : Sheet) (langs : List ℕ) → is_rising langs ≡ true → 65534 < s.bytes → figures_text s langs ≡ verdict_line (Broken 1 Header)
unfolding figures_of
line_1 s langs r long = only_line s langs 1 (too_long s langs r long) refl

line_33 : (s : Sheet) (langs : List ℕ) → is_rising langs ≡ false → figures_text s langs ≡ verdict_line (Broken 33 Header)
unfolding figures_of
line_33 s langs r = only_line s langs 33 (not_rising s langs r) refl

-- the text of an input is that of as much of it as the buffer holds, whatever the list
pub cut_figures : (bytes langs : List ℕ) → 65536 ≤ length bytes → figures_text (sheet_of (take 65536 bytes)) langs ≡ figures_text (sheet_of bytes) langs
unfolding sheet_of
cut_figures bytes langs h =
    let cut = length-take-le 65536 bytes h in
    (elim (is_rising langs) as (λ b. is_rising langs ≡ b → figures_text (sheet_of (take 65536 bytes)) langs ≡ figures_text (sheet_of bytes) langs) [
      | true ↦ λ e. line_1 (sheet_of (take 65536 bytes)) langs e (omega (arith, cut)) ∙ sym (line_1 (sheet_of bytes) langs e (omega arith))
      | false ↦ λ e. line_33 (sheet_of (take 65536 bytes)) langs e ∙ sym (line_33 (sheet_of bytes) langs e)
    ]) refl

-- and the text under a list is that under as much of it as the buffer holds, whatever the sheet
pub cut_figures_langs : (s : Sheet) (langs : List ℕ) → ((i : ℕ) → get_or langs i 0 < 256) → 131074 ≤ length langs → figures_text s (words (take 131074 langs)) ≡ figures_text s (words langs)
unfolding figures_text figures
cut_figures_langs s langs h l = ap (λ v. verdict_line v ++ join (map figure_line (figures_by s v))) (cut_list s langs h l)
