-- A builder of sheets for the cases: it lays sections out as document 01's "The sheet" says. Assumes nothing.
use Rattle.std.specs.Prelude.{ℕ, zero, suc, ◌+◌, ◌*◌, ◌/◌, ◌%◌, List, [], ◌∷◌, ◌++◌, map, length, set, replicate}
use Rattle.sheet.specs.Layout.{start, record_words}

-- a part of a record: a word, or a list, which is two words and entries in section 6
pub data Part : Type 0 where
  word : ℕ → Part
  list : List ℕ → Part

abbrev pub Row : Type 0
Row = List Part

-- the entries of a record's lists
unfoldable pub row_entries : Row → List ℕ
row_entries [] = []
row_entries (word w ∷ r) = row_entries r
row_entries (list xs ∷ r) = xs ++ row_entries r

-- the words of a record whose entries begin at `at` in section 6
unfoldable pub row_words : ℕ → Row → List ℕ
row_words at [] = []
row_words at (word w ∷ r) = w ∷ row_words at r
row_words at (list xs ∷ r) = at ∷ length xs ∷ row_words (at + length xs) r

-- the words of a section, and what its lists put into section 6
unfoldable pub section_words : ℕ → List Row → List ℕ
section_words at [] = []
section_words at (r ∷ rs) = row_words at r ++ section_words (at + length (row_entries r)) rs

unfoldable pub section_entries : List Row → List ℕ
section_entries [] = []
section_entries (r ∷ rs) = row_entries r ++ section_entries rs

-- a sheet's records, section by section
pub record Parts : Type 0 where
  pub level : ℕ
  pub programmes : List Row
  pub contents : List Row
  pub objects : List Row
  pub packs : List Row
  pub tracks : List Row
  pub sets : List Row

-- count and offset of each section, from word 16 on without gaps
unfoldable pub pairs : ℕ → ℕ → List ℕ → List ℕ
pairs section at [] = []
pairs section at (n ∷ ns) = n ∷ at ∷ pairs (section + 1) (at + n * record_words section) ns

unfoldable pub build : Parts → List ℕ
build p =
    let ep = section_entries p.programmes in
    let ec = section_entries p.contents in
    let es = ep ++ ec ++ section_entries p.objects in
    1
    ∷ p.level
    ∷ pairs 1 16 (length p.programmes ∷ length p.contents ∷ length p.objects ∷ length p.packs ∷ length p.tracks ∷ length es ∷ length p.sets ∷ [])
    ++ section_words 0 p.programmes
    ++ section_words (length ep) p.contents
    ++ section_words (length ep + length ec) p.objects
    ++ section_words 0 p.packs
    ++ section_words 0 p.tracks
    ++ es
    ++ section_words 0 p.sets

-- the sheet with another word at a position of a record
unfoldable pub put : ℕ → ℕ → ℕ → ℕ → List ℕ → List ℕ
put section k at w ws = set ws (start (record { bytes = 2 * length ws; words = ws }) section k + at) w

-- the bytes of words, high byte first
unfoldable pub bytes_of : List ℕ → List ℕ
bytes_of [] = []
bytes_of (w ∷ ws) = w / 256 ∷ w % 256 ∷ bytes_of ws

-- 5575 is "eng"
abbrev pub eng : ℕ
eng = 5575

-- an absent word
abbrev pub absent : ℕ
absent = 32767

-- a programme of contents and sets, without labels
unfoldable pub programme : List ℕ → List ℕ → Row
programme contents sets = word eng ∷ list contents ∷ list sets ∷ list [] ∷ word 1 ∷ []

-- a content of an object, without labels
unfoldable pub content : ℕ → Row
content o = word eng ∷ word o ∷ list [] ∷ word 1 ∷ []

-- words that are no lists
unfoldable pub plain : List ℕ → Row
plain = map word

-- an object of all its parts: pack, tracks, children, complements, the seven words from interact on, and its span
unfoldable pub object : ℕ → List ℕ → List ℕ → List ℕ → List ℕ → ℕ → ℕ → Row
object pack tracks children complements words first number =
    word pack ∷ list tracks ∷ list children ∷ list complements ∷ plain words ++ word first ∷ word number ∷ []

-- interact 0, no gain, no offset, no range
abbrev pub still : List ℕ
still = 0 ∷ replicate 6 absent

-- interact 1 with a gain, a gain range and nothing else
unfoldable pub slider : ℕ → ℕ → ℕ → List ℕ
slider gain minimum maximum = 1 ∷ gain ∷ minimum ∷ maximum ∷ replicate 3 absent

-- an object with a pack and tracks alone
unfoldable pub leaf : ℕ → List ℕ → Row
leaf pack tracks = object pack tracks [] [] still 0 0

-- an object with children alone
unfoldable pub parent : List ℕ → Row
parent children = object 65535 [] children [] still 0 0

-- the numbers below n, rising
unfoldable pub below : ℕ → List ℕ
below zero = []
below (suc n) = below n ++ n ∷ []

-- packs: kind, channels, front
unfoldable pub speakers : ℕ → Row
speakers channels = plain (1 ∷ channels ∷ 0 ∷ [])

unfoldable pub front_pack : Row
front_pack = plain (3 ∷ 1 ∷ 1 ∷ [])

unfoldable pub side_pack : Row
side_pack = plain (3 ∷ 1 ∷ 0 ∷ [])

-- the tracks of a pack's channels
unfoldable pub channel_tracks : ℕ → ℕ → List Row
channel_tracks pack channels = map (λ n. plain (pack ∷ n ∷ [])) (below channels)

-- a value set without offset words: gain, own, gain minimum, gain maximum
unfoldable pub gain_row : ℕ → ℕ → ℕ → ℕ → Row
gain_row gain own minimum maximum = plain (gain ∷ own ∷ minimum ∷ maximum ∷ replicate 3 absent)
