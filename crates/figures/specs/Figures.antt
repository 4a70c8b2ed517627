-- The figures of a refusal. Document 02, L1: "For a sheet refused by 18, 20 or 24 a tool prints, after the verdict line, the figures with
-- their records: the value, then the bound for 18; the leader's, then the member's unequal word or kind for 20; each group's (under its
-- leader) and lone object's share by rising record for 24. [..] For any other verdict it prints the verdict line only." The verdict is that
-- under the list of languages lent beside the sheet, which is `langs` here. Assumes nothing.
use Rattle.std.specs.Prelude.{ℕ, cond, List, [], ◌∷◌, eqb, Option, Some, None}
use Rattle.sheet.specs.Words.{Sheet}
use Rattle.profile.specs.declared.Place.{Place}
use Rattle.profile.specs.declared.Verdict.{Verdict}
use Rattle.profile.specs.declared.Verdict.TheVariants.{Accepted, Broken}
use Rattle.profile.specs.Verdict.{section_of, record_of, verdict}
use Rattle.figures.specs.declared.Figure.{Figure}
use Rattle.figures.specs.declared.Clash.{Clash}
use Rattle.figures.specs.Ranges.{range_clashes}
use Rattle.figures.specs.Members.{leader_clash}
use Rattle.figures.specs.Shares.{share_list}

-- the two figures of a clash
unfoldable pub clash_figures : Option Clash → List Figure
clash_figures (Some x) = x.first ∷ x.second ∷ []
clash_figures None = []

-- the figures of a rule that is broken at a place
unfoldable pub figures_of : Sheet → ℕ → Place → List Figure
figures_of s rule place =
    cond (eqb rule 18) (clash_figures (range_clashes s (section_of place) (record_of place)))
    (cond (eqb rule 20) (clash_figures (leader_clash s (record_of place))) (cond (eqb rule 24) (share_list s) []))

-- the figures by a verdict
unfoldable pub figures_by : Sheet → Verdict → List Figure
figures_by s Accepted = []
figures_by s (Broken rule place) = figures_of s rule place

-- the figures of a sheet: each with the section and the record where it stands, in the order in which they are told
unfoldable pub figures : Sheet → List ℕ → List Figure
figures s langs = figures_by s (verdict s langs)
