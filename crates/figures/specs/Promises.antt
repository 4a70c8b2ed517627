-- What the figures of a refusal are held to. Document 02, L1: "These figures are proved to stand in the sheet (kinds and shares: to follow
-- from it) and by themselves to break that rule." Each record says it of one rule; the theorems, in proofs/Theorems.antt, give it for every
-- sheet that is refused by that rule, under whatever list of languages, which is `langs` here. Assumes nothing.
use Rattle.std.specs.Prelude.{ℕ, suc, ◌+◌, ◌<◌, ◌≡◌, Bool, true, false, cond, List, [], ◌∷◌, eqb, length, get_or, ℤ, pos, negsuc}
use mathlib.Core.Logic.{◌⊎◌}
use lib.Signed.{le_z}
use Rattle.sheet.specs.Words.{Sheet}
use Rattle.sheet.specs.Layout.{level, count, field, number, entry}
use Rattle.sheet.specs.Fields.{objects, value_sets, complement_list, set_own}
use Rattle.values.specs.declared.Sort.{Sort}
use Rattle.values.specs.declared.Sort.TheVariants.{Gains, Offsets}
use Rattle.values.specs.declared.Gain.{Gain}
use Rattle.values.specs.declared.Gain.TheVariants.{Silent, Tenths}
use Rattle.values.specs.Gain.{at_most}
use Rattle.values.specs.Values.{is_absent}
use Rattle.profile.specs.Limits.{limit, counted_limit}
use Rattle.profile.specs.Relations.{kind, owner, share, object_value, object_minimum, object_maximum, set_value, set_minimum, set_maximum}
use Rattle.figures.specs.declared.FigureNumber.{FigureNumber}
use Rattle.figures.specs.declared.FigureNumber.TheVariants.{Word, Derived}
use Rattle.figures.specs.declared.Figure.{Figure}
use Rattle.figures.specs.Clashes.{printed, no_figure}
use Rattle.figures.specs.Members.{compared_at, compared_count}
use Rattle.figures.specs.Shares.{has_share}
use Rattle.figures.specs.Figures.{figures}

-- the figure is the word at a position of its record, and the sheet has that record
pub record Stands (s : Sheet) (x : Figure) (at : ℕ) : Type 0 where
  pub inside : x.index < count s x.section
  pub word : x.number ≡ Word (field s x.section x.index at)

-- "either silence (-32768) or a number of tenths": the gain that a printed number stands for
abbrev pub is_silence : ℤ → Bool
is_silence (pos n) = false
is_silence (negsuc n) = eqb n 32767

abbrev pub printed_gain : ℤ → Gain
printed_gain z = cond (is_silence z) Silent (Tenths z)

-- one printed number is at most another, by the order of gains ("silence is below every number") or of offsets
abbrev pub AtMost : Sort → ℤ → ℤ → Type 0
AtMost Gains y z = at_most (printed_gain y) (printed_gain z) ≡ true
AtMost Offsets y z = le_z y z ≡ true

-- where an object or a value set has the value of a sort, its minimum and its maximum
abbrev pub value_at : ℕ → Sort → ℕ
value_at section t = cond (eqb section objects) (object_value t) (set_value t)

abbrev pub minimum_at : ℕ → Sort → ℕ
minimum_at section t = cond (eqb section objects) (object_minimum t) (set_minimum t)

abbrev pub maximum_at : ℕ → Sort → ℕ
maximum_at section t = cond (eqb section objects) (object_maximum t) (set_maximum t)

-- the figure is a word that is there: "In gain, offset and range words 32767 means absent"
abbrev pub IsThere : Figure → Type 0
IsThere x = x.number ≡ Word 32767 → ⊥

-- the figure is of object o, of value set v
abbrev pub OfObject : ℕ → Figure → Type 0
OfObject o x = (x.section ≡ objects) × (x.index ≡ o)

abbrev pub OfSet : ℕ → Figure → Type 0
OfSet v x = (x.section ≡ value_sets) × (x.index ≡ v)

-- the value of set v, which is object o's: the set's own word where that is there, the object's where it is absent
abbrev pub SetValue : Sheet → ℕ → ℕ → Sort → Figure → Type 0
SetValue s o v t value =
    (OfSet v value × (is_absent (field s value_sets v (set_value t)) ≡ false)) ⊎ (OfObject o value × (is_absent (field s value_sets v (set_value t)) ≡ true))

-- and the bound beside it: the set's where its own is 1; the object's where its own is not 1, or where the value is the set's own word
abbrev pub SetBound : Sheet → ℕ → ℕ → Figure → Figure → Type 0
SetBound s o v value bound =
    (OfSet v bound × (field s value_sets v set_own ≡ 1)) ⊎ (OfObject o bound × ((field s value_sets v set_own ≡ 1 → ⊥) ⊎ OfSet v value))

-- whose two figures break rule 18 at record k of a section: at an object both are its own; at a value set they are the set's or its object's
abbrev pub BreakAt : Sheet → ℕ → ℕ → Sort → Figure → Figure → Type 0
BreakAt s section k t value bound =
    ((section ≡ objects) × (OfObject k value × OfObject k bound))
    ⊎ ((section ≡ value_sets) × (SetValue s (owner s k) k t value × SetBound s (owner s k) k value bound))

-- 18: "the value, then the bound". Two figures, a value and the minimum or the maximum of its sort, which the rule sets side by side at
-- record k of the section; both are there, and the value is below that minimum or above that maximum
pub record RangeLeft (s : Sheet) (langs : List ℕ) (section k : ℕ) : Type 0 where
  pub sort : Sort
  pub value : Figure
  pub bound : Figure
  pub listed : figures s langs ≡ value ∷ bound ∷ []
  pub place : BreakAt s section k sort value bound
  pub value_stands : Stands s value (value_at value.section sort)
  pub value_there : IsThere value
  pub bound_there : IsThere bound
  pub outside : (Stands s bound (minimum_at bound.section sort) × (AtMost sort (printed bound.number) (printed value.number) → ⊥))
      ⊎ (Stands s bound (maximum_at bound.section sort) × (AtMost sort (printed value.number) (printed bound.number) → ⊥))

-- 20: "the leader's, then the member's unequal word or kind". Two figures of a leader and a complement that it lists; they are the same word of
-- both, or their kinds, and the printed numbers are unequal
pub record MemberDiffers (s : Sheet) (langs : List ℕ) (leader : ℕ) : Type 0 where
  pub place : ℕ
  pub first : Figure
  pub second : Figure
  pub listed : figures s langs ≡ first ∷ second ∷ []
  pub is_listed_lem : place < number s objects leader complement_list
  pub leader_of_lem : (first.section ≡ objects) × (first.index ≡ leader)
  pub member_of : (second.section ≡ objects) × (second.index ≡ entry s objects leader complement_list place)
  pub inside : (leader < count s objects) × (entry s objects leader complement_list place < count s objects)
  pub same_word : ((i : ℕ) × ((i < compared_count) × (Stands s first (compared_at i) × Stands s second (compared_at i))))
      ⊎ ((first.number ≡ Derived (kind s first.index)) × (second.number ≡ Derived (kind s second.index)))
  pub unequal : printed first.number ≡ printed second.number → ⊥

-- the figure at a place of the list
abbrev pub figure_at : List Figure → ℕ → Figure
figure_at xs i = get_or xs i no_figure

-- and its record
abbrev pub record_at : List Figure → ℕ → ℕ
record_at xs i = (figure_at xs i).index

-- the share of a leader or a lone object, which the sheet has
pub record ShareOf (s : Sheet) (x : Figure) : Type 0 where
  pub of_object : x.section ≡ objects
  pub inside : x.index < count s objects
  pub has_share_lem : has_share s x.index ≡ true
  pub number : x.number ≡ Derived (share s x.index)

-- the numbers of a list of kinds or shares, added up
abbrev pub derived : FigureNumber → ℕ
derived (Word w) = 0
derived (Derived n) = n

unfoldable pub total : List Figure → ℕ
total [] = 0
total (x ∷ xs) = derived x.number + total xs

-- 24: "each group's (under its leader) and lone object's share by rising record". The numbers, which are shares, add up above the limit of the
-- sheet's level
pub record SharesExceed (s : Sheet) (langs : List ℕ) : Type 0 where
  pub levelled : level s ≡ 0 → ⊥
  pub each : (i : ℕ) → i < length (figures s langs) → ShareOf s (figure_at (figures s langs) i)
  pub all : (o : ℕ) → o < count s objects → has_share s o ≡ true → (i : ℕ) × ((i < length (figures s langs)) × (record_at (figures s langs) i ≡ o))
  pub rising : (i : ℕ) → suc i < length (figures s langs) → record_at (figures s langs) i < record_at (figures s langs) (suc i)
  pub above : limit (level s) counted_limit < total (figures s langs)
