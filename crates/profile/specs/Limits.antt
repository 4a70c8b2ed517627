-- Document 01, "Level limits": "One row per level, two rows of fixed length in one table; level 0 has no maximum. Level 1, then 2."
-- Of the checker only rule 2 reads the level besides; the listener reads whether it is 0. Assumes nothing.
use Rattle.std.specs.Prelude.{ℕ, ◌-◌, Bool, not, ◌&&◌, List, [], ◌∷◌, eqb, ltb, get_or}
use Rattle.sheet.specs.Words.{Sheet}
use Rattle.sheet.specs.Layout.{level}

-- "programmes 8, 16; contents 16, 28; objects 48, 84; packs of kind 3: 32, 56; tracks 32, 56"
-- "lists: programme contents 16, 28 [..]; programme sets 16, 28; labels 4, 8; children 16, 28; complements 15, 27; set span 8, 16"
-- "channels 12, 24; groups 8, 14; groups plus top objects in no group 16, 16; counted tracks 16, 28"
unfoldable pub limits : List (List ℕ)
limits =
    (8 ∷ 16 ∷ 48 ∷ 32 ∷ 32 ∷ 16 ∷ 16 ∷ 4 ∷ 16 ∷ 15 ∷ 8 ∷ 12 ∷ 8 ∷ 16 ∷ 16 ∷ [])
    ∷ (16 ∷ 28 ∷ 84 ∷ 56 ∷ 56 ∷ 28 ∷ 28 ∷ 8 ∷ 28 ∷ 27 ∷ 16 ∷ 24 ∷ 14 ∷ 16 ∷ 28 ∷ [])
    ∷ []

-- a limit's column in the rows
abbrev pub programmes_limit : ℕ
programmes_limit = 0

abbrev pub contents_limit : ℕ
contents_limit = 1

abbrev pub objects_limit : ℕ
objects_limit = 2

abbrev pub packs_limit : ℕ
packs_limit = 3

abbrev pub tracks_limit : ℕ
tracks_limit = 4

abbrev pub programme_contents_limit : ℕ
programme_contents_limit = 5

abbrev pub programme_sets_limit : ℕ
programme_sets_limit = 6

abbrev pub labels_limit : ℕ
labels_limit = 7

abbrev pub children_limit : ℕ
children_limit = 8

abbrev pub complements_limit : ℕ
complements_limit = 9

abbrev pub span_limit : ℕ
span_limit = 10

abbrev pub channels_limit : ℕ
channels_limit = 11

abbrev pub groups_limit : ℕ
groups_limit = 12

abbrev pub units_limit : ℕ
units_limit = 13

abbrev pub counted_limit : ℕ
counted_limit = 14

-- the limit of a level, 1 or 2
unfoldable pub limit : ℕ → ℕ → ℕ
limit row column = get_or (get_or limits (row - 1) []) column 0

-- n is above the sheet's limit; "level 0 has no maximum"
unfoldable pub exceeds : Sheet → ℕ → ℕ → Bool
exceeds s column n = not (eqb (level s) 0) && ltb (limit (level s) column) n
