-- Value sets that stand for others with the same words. Assumes nothing.
use Rattle.std.specs.Prelude.{ℕ, ◌≡◌, false, Option, Some, None, List, [], get_or}
use Rattle.inclusion.specs.declared.SetTables.{SetTables}
use Rattle.sheet.specs.Words.{Sheet}
use Rattle.profile.specs.Rules.{sets_differ}
use Rattle.tables.specs.steps.Right.{told}

-- the set that stands for a set by a table: one less than the number at its place, or itself where that is 0 or the table ends before it
unfoldable pub representative : List ℕ → ℕ → ℕ
representative t v = told v (get_or t v 0)

-- each has the words of the set that it stands for
abbrev pub Alike : Sheet → List ℕ → Type 0
Alike s t = (v : ℕ) → sets_differ s (representative t v) v ≡ false

-- the owners of the sets and the sets that stand for others, by tables that may not be there
abbrev pub owners_of : Option SetTables → List ℕ
owners_of None = []
owners_of (Some sets) = sets.owners.now

abbrev pub alike_of : Option SetTables → List ℕ
alike_of None = []
alike_of (Some sets) = sets.alike.now
