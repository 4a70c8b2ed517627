-- The groups as rows of two lists, each a leader and a complement. Assumes nothing.
use Rattle.std.specs.Prelude.{ℕ, ◌+◌, ◌<◌, ◌≡◌, List, ◌⊎◌, length, get_or}
use Rattle.sheet.specs.Words.{Sheet}
use Rattle.sheet.specs.Layout.{count, number, entry}
use Rattle.sheet.specs.Fields.{objects, complement_list}
use Rattle.inclusion.specs.declared.Rows.{Rows}
use Rattle.inclusion.specs.steps.Groups.{GroupKept}

-- a leader has m as its complement where it has one
abbrev pub OnlyComplement : Sheet → ℕ → ℕ → Type 0
OnlyComplement s l m = number s objects l complement_list ≡ 1 → m ≡ entry s objects l complement_list 0

-- the table has one number for both, or the leader's group is kept
abbrev pub RowKept : Sheet → List ℕ → ℕ → ℕ → Type 0
RowKept s t l m = (get_or t l 0 ≡ get_or t m 0) ⊎ GroupKept s t l

-- the same lent lists, as long as they were
pub record SameLists (before after : Rows) : Type 0 where
  pub same_leading : after.leading.ghost_name ≡ before.leading.ghost_name
  pub same_partners : after.partners.ghost_name ≡ before.partners.ghost_name
  pub long_leading : length after.leading.now ≡ length before.leading.now
  pub long_partners : length after.partners.now ≡ length before.partners.now

-- x stands at place g, and before it what stood there
abbrev pub PlaceWritten : List ℕ → List ℕ → ℕ → ℕ → Type 0
PlaceWritten t t' g x = ((i : ℕ) → i < g → get_or t' i 0 ≡ get_or t i 0) × (get_or t' g 0 ≡ x)

-- there is one row more, of l and m
pub record RowAdded (before after : Rows) (l m : ℕ) : Type 0 where
  pub more : after.count ≡ before.count + 1
  pub leader : PlaceWritten before.leading.now after.leading.now before.count l
  pub partner : PlaceWritten before.partners.now after.partners.now before.count m

-- one of the first g rows of two lists has these two
abbrev pub HasRow : List ℕ → List ℕ → ℕ → ℕ → ℕ → Type 0
HasRow t u g l m = (i : ℕ) × (i < g) × (get_or t i 0 ≡ l) × (get_or u i 0 ≡ m)

-- the g rows have the objects below l with each of their complements, and l with the first j of its own
pub record RowsListed (s : Sheet) (t u : List ℕ) (g l j : ℕ) : Type 0 where
  pub objects_before : (k : ℕ) → k < l → (i : ℕ) → i < number s objects k complement_list → HasRow t u g k (entry s objects k complement_list i)
  pub own : (i : ℕ) → i < j → HasRow t u g l (entry s objects l complement_list i)
  pub each : (i : ℕ) → i < g → OnlyComplement s (get_or t i 0) (get_or u i 0)

-- the g rows have all
abbrev pub RowsComplete : Sheet → List ℕ → List ℕ → ℕ → Type 0
RowsComplete s t u g = RowsListed s t u g (count s objects) 0

-- the same of rows with their lists
abbrev pub HasListed : Sheet → Rows → ℕ → ℕ → Type 0
HasListed s rows l j = RowsListed s rows.leading.now rows.partners.now rows.count l j
