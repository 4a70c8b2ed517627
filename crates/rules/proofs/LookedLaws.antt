-- What a table tells of a list, or else what a search finds. Assumes nothing.
use Rattle.std.specs.Prelude.{ℕ, Bool, ◌≡◌, List, Option, Some, None, MatchOption}
use mathlib.Core.Path.{refl, ◌∙◌}
use Rattle.sheet.specs.Words.{Sheet}
use Rattle.sheet.specs.Layout.{first, number}
use Rattle.runs.specs.steps.Runs.{LookedUp, Tells}

-- Q holds of the list as the table tells, or as a search that has P finds
pub looked_else : (s : Sheet) (t : List ℕ) (section k at : ℕ) (Q : ℕ → ℕ → Bool) (o : Option Bool) (P : Type 0) (r : Bool) → LookedUp s t section k at o → MatchOption o P (λ x. r ≡ x) → Tells Q s t
    → (P → r ≡ Q (first s section k at) (number s section k at)) → r ≡ Q (first s section k at) (number s section k at)
looked_else s t section k at Q None P r looked found right searched = searched found
looked_else s t section k at Q (Some x) P r looked found right searched = found ∙ looked x refl Q right
