-- What stands in a table over the references. An empty table is right. Assumes nothing.
use Rattle.std.specs.Prelude.{ℕ, ◌+◌, ◌<◌, ◌≤◌, ◌≡◌, Bool, not, ◌||◌, Option, Some, List, eqb, leb, ltb, length, get_or}
use Rattle.sheet.specs.Words.{Sheet}
use Rattle.sheet.specs.Layout.{count, field, first, number, reference}
use Rattle.sheet.specs.Fields.{packs, tracks, references, pack_channels, track_pack, track_ordinal}
use Rattle.profile.specs.Counting.{any, how_many, two_of}
use Rattle.profile.specs.Languages.{good_language}
use Rattle.profile.specs.Rules.{lacks}

-- of the m indices, v is the least from x on that has p: some of the n from x on has p exactly when v is below their end
abbrev pub Next : (ℕ → Bool) → ℕ → ℕ → ℕ → Type 0
Next p m x v = (n : ℕ) → x + n ≤ m → ltb v (x + n) ≡ any (λ i. p (x + i)) n

-- v is the least from x on at which f is what it is at one from x on before: two of the n from x on are alike exactly when v is
-- below their end
abbrev pub Repeat : (ℕ → ℕ) → ℕ → ℕ → ℕ → Type 0
Repeat f m x v = (n : ℕ) → x + n ≤ m → ltb v (x + n) ≡ two_of (λ i j. eqb (f (x + i)) (f (x + j))) n

-- pack and ordinal of the track that a reference names
abbrev pub pack_at : Sheet → ℕ → ℕ
pack_at s y = field s tracks (reference s y) track_pack

abbrev pub ordinal_at : Sheet → ℕ → ℕ
ordinal_at s y = field s tracks (reference s y) track_ordinal

-- the second of two tracks is of another pack, or has an ordinal past its pack's channels
abbrev pub stray : Sheet → ℕ → ℕ → Bool
stray s e f =
    not (eqb (field s tracks e track_pack) (field s tracks f track_pack))
    || leb (field s packs (field s tracks f track_pack) pack_channels) (field s tracks f track_ordinal)

-- the table tells Q of each list inside section 6, n references from x on: Q x n exactly when what stands at x is below their end
abbrev pub Tells : (ℕ → ℕ → Bool) → Sheet → List ℕ → Type 0
Tells Q s t = (x : ℕ) → x < length t → x < count s references → (n : ℕ) → x + n ≤ count s references → ltb (get_or t x 0) (x + n) ≡ Q x n

-- what is found of a list is what the table tells
abbrev pub LookedUp : Sheet → List ℕ → ℕ → ℕ → ℕ → Option Bool → Type 0
LookedUp s t section k at r = (found : Bool) → r ≡ Some found → (Q : ℕ → ℕ → Bool) → Tells Q s t → found ≡ Q (first s section k at) (number s section k at)

-- the table has for each reference the next that has p
abbrev pub NextRight : Sheet → (ℕ → Bool) → List ℕ → Type 0
NextRight s p t = (x : ℕ) → x < length t → x < count s references → Next p (count s references) x (get_or t x 0)

-- the table has for each reference the next at which f repeats
abbrev pub KeyRight : Sheet → (ℕ → ℕ) → List ℕ → Type 0
KeyRight s f t = (x : ℕ) → x < length t → x < count s references → Repeat f (count s references) x (get_or t x 0)

-- the next whose entry repeats
abbrev pub RepeatRight : Sheet → List ℕ → Type 0
RepeatRight s t = KeyRight s (reference s) t

-- the next that names an index which a section lacks
abbrev pub LacksRight : Sheet → ℕ → List ℕ → Type 0
LacksRight s section t = NextRight s (λ y. lacks s section (reference s y)) t

-- the next that is no good language
abbrev pub LanguagesRight : Sheet → List ℕ → List ℕ → Type 0
LanguagesRight s langs t = NextRight s (λ y. not (good_language langs (reference s y))) t

-- the next after which a track does not go on with the pack
abbrev pub StrayRight : Sheet → List ℕ → Type 0
StrayRight s t = NextRight s (λ y. stray s (reference s y) (reference s (y + 1))) t

-- the next whose track has an ordinal again
abbrev pub OrdinalRight : Sheet → List ℕ → Type 0
OrdinalRight s t = KeyRight s (ordinal_at s) t

-- of the n tracks that the references from a on name, one is of another pack, or some of n ordinals is not that of exactly one
unfoldable pub odd_tracks : Sheet → ℕ → ℕ → ℕ → Bool
odd_tracks s a n pack =
    any (λ i. not (eqb (pack_at s (a + i)) pack)) n || any (λ k. not (eqb (how_many (λ i. eqb (ordinal_at s (a + i)) k) n) 1)) n
