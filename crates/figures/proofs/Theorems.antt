-- The theorems about the figures of a refusal, all in one place. Document 02, L1: "These figures are proved to stand in the sheet (kinds and
-- shares: to follow from it) and by themselves to break that rule." What each theorem says of the figures is in specs/Promises.antt. Each is
-- stated here whole, for every list of languages, and proved by the theorem that it cites. That the code answers these figures is in the contract of `figures_by`
-- (src/by_verdict.rt). Assumes nothing.
use Rattle.std.proofs.Common.{◌≡◌, ℕ, ◌<◌, ◌≤◌, List, [], length, get_or}
use Rattle.sheet.specs.Words.{Sheet, sheet_of}
use Rattle.profile.specs.declared.Place.{Place}
use Rattle.profile.specs.declared.Verdict.TheVariants.{Accepted, Broken}
use Rattle.profile.specs.Verdict.{section_of, record_of, verdict}
use Rattle.figures.specs.Figures.{figures}
use Rattle.figures.specs.Lists.{most_figures}
use Rattle.figures.specs.Promises.{RangeLeft, MemberDiffers, SharesExceed}
use Rattle.figures.proofs.RangeLaws.{range_left as ranges}
use Rattle.figures.proofs.MemberLaws.{member_differs as members}
use Rattle.figures.proofs.WordLaws.{words_fit}
use Rattle.figures.proofs.ShareLaws.{shares_exceed as shares}
use Rattle.figures.proofs.MostLaws.{figures_most as most}
use Rattle.figures.proofs.FoundLaws.{no_figures_lem as none, accepted_none_told as none_told}

-- "the value, then the bound for 18": the two figures of a refusal by 18 are words of the sheet, those that the rule sets side by side at the
-- place of the refusal, and as printed numbers the value is below that minimum or above that maximum
pub range_left : (s : Sheet) (langs : List ℕ) (place : Place) → verdict s langs ≡ Broken 18 place → RangeLeft s langs (section_of place) (record_of place)
range_left = ranges

-- "the leader's, then the member's unequal word or kind for 20": the two figures of a refusal by 20 are one word of the leader at the place and
-- the same word of a member that it lists, or their two kinds, and the printed numbers are unequal; the sheet is lent as bytes
pub member_differs : (bytes langs : List ℕ) → ((i : ℕ) → get_or bytes i 0 < 256) → (place : Place) → verdict (sheet_of bytes) langs ≡ Broken 20 place
    → MemberDiffers (sheet_of bytes) langs (record_of place)
member_differs bytes langs h place e = members (sheet_of bytes) langs place (words_fit bytes h) e

-- "each group's (under its leader) and lone object's share by rising record for 24": the figures of a refusal by 24 are the shares of all
-- leaders and lone objects, by rising record, and the numbers add up above the limit of the sheet's level
pub shares_exceed : (s : Sheet) (langs : List ℕ) (place : Place) → verdict s langs ≡ Broken 24 place → SharesExceed s langs
shares_exceed = shares

-- no sheet has more than sixteen figures, so that the sixteen places of the code's answer hold "each group's (under its leader) and lone
-- object's share"
pub figures_most : (s : Sheet) (langs : List ℕ) → length (figures s langs) ≤ most_figures
figures_most = most

-- "For any other verdict it prints the verdict line only": a refusal by another rule has no figures
pub no_figures_lem : (s : Sheet) (langs : List ℕ) (rule : ℕ) (place : Place) → verdict s langs ≡ Broken rule place → (rule ≡ 18 → ⊥) → (rule ≡ 20 → ⊥) → (rule ≡ 24 → ⊥) → figures s langs ≡ []
no_figures_lem = none

-- and acceptance has none
pub accepted_none_told : (s : Sheet) (langs : List ℕ) → verdict s langs ≡ Accepted → figures s langs ≡ []
accepted_none_told = none_told
