-- What the loops over a list test of its entries: the list is n entries of section 6, whose offset is `base`, from `first` on. Assumes
-- nothing.
use Rattle.std.specs.Prelude.{ℕ, ◌+◌, Bool, not, ◌||◌, List, eqb, leb}
use Rattle.sheet.specs.Words.{Sheet, word}
use Rattle.sheet.specs.Layout.{count, field}
use Rattle.sheet.specs.Fields.{tracks, track_pack, track_ordinal}
use Rattle.profile.specs.Languages.{good_language}
use Rattle.profile.specs.Relations.{has_objects_pack}

-- the entry at a place
unfoldable pub entry_at : Sheet → ℕ → ℕ → ℕ → ℕ
entry_at s base first i = word s (base + (first + i))

-- it names an index that a section of so many records lacks
unfoldable pub lacking_at : Sheet → ℕ → ℕ → ℕ → ℕ → Bool
lacking_at s base first many i = leb many (entry_at s base first i)

-- it is no good language
unfoldable pub no_language_at : Sheet → List ℕ → ℕ → ℕ → ℕ → Bool
no_language_at s langs base first i = not (good_language langs (entry_at s base first i))

-- two places have the same entry
unfoldable pub same_at : Sheet → ℕ → ℕ → ℕ → ℕ → Bool
same_at s base first i j = eqb (entry_at s base first i) (entry_at s base first j)

-- it is no track, a track of another pack, or one whose ordinal is not its place in the list
unfoldable pub out_of_order_at : Sheet → ℕ → ℕ → ℕ → ℕ → Bool
out_of_order_at s base first pack i =
    leb (count s tracks) (entry_at s base first i)
    || not (eqb (field s tracks (entry_at s base first i) track_pack) pack)
    || not (eqb (field s tracks (entry_at s base first i) track_ordinal) i)

-- it is no object, or one without a pack of kind 3
unfoldable pub bad_child_at : Sheet → ℕ → ℕ → ℕ → ℕ → Bool
bad_child_at s base first many i = leb many (entry_at s base first i) || not (has_objects_pack s (entry_at s base first i))
