-- Sections, records and lists of a sheet. Document 01, "The sheet". Every read is total: 0 past the end. Assumes nothing.
use Rattle.std.specs.Prelude.{ℕ, ◌+◌, ◌*◌, cond, List, [], ◌∷◌, eqb, get_or}
use Rattle.sheet.specs.Words.{Sheet, word}

-- "Word 0 is the edition, 1."
abbrev pub edition : Sheet → ℕ
edition s = word s 0

-- "Word 1 is the level: 0, 1 or 2."
abbrev pub level : Sheet → ℕ
level s = word s 1

-- "Then come seven pairs, count and offset (in words from the start), for sections 1 to 7": how many records a section has
unfoldable pub count : Sheet → ℕ → ℕ
count s section = word s (2 * section)

-- the offset of a section
unfoldable pub offset : Sheet → ℕ → ℕ
offset s section = word s (2 * section + 1)

-- words of a record, by section ("Programme, 8 words", "Content, 5" and so on); section 0 is the header, of 16 words
abbrev pub record_lengths : List ℕ
record_lengths = 16 ∷ 8 ∷ 5 ∷ 16 ∷ 3 ∷ 2 ∷ 1 ∷ 7 ∷ []

unfoldable pub record_words : ℕ → ℕ
record_words section = get_or record_lengths section 0

-- the index of a record's first word
unfoldable pub start : Sheet → ℕ → ℕ → ℕ
start s section k = offset s section + k * record_words section

-- the end of a section in words, exact; "section 0 is the header", which ends at 16
unfoldable pub end : Sheet → ℕ → ℕ
end s section = cond (eqb section 0) 16 (start s section (count s section))

-- the word at position `at` of a record
unfoldable pub field : Sheet → ℕ → ℕ → ℕ → ℕ
field s section k at = word s (start s section k + at)

-- "A list is two words, first and count, into section 6; a set span is the same into section 7." The list at position `at`
-- of a record: its first
abbrev pub first : Sheet → ℕ → ℕ → ℕ → ℕ
first s section k at = field s section k at

-- and how many entries it has
unfoldable pub number : Sheet → ℕ → ℕ → ℕ → ℕ
number s section k at = field s section k (at + 1)

-- "Reference, 1: the entries of all lists." The entry at an index of section 6
unfoldable pub reference : Sheet → ℕ → ℕ
reference s i = word s (offset s 6 + i)

-- entry i of the list at position `at` of a record
unfoldable pub entry : Sheet → ℕ → ℕ → ℕ → ℕ → ℕ
entry s section k at i = reference s (first s section k at + i)
