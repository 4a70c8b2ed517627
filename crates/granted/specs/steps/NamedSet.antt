-- The set that a programme names for an object, and the start values and ranges that go by it, in the steps of the code. Assumes nothing.
use Rattle.std.specs.Prelude.{ℕ, Bool, cond, not, ◌&&◌, ◌||◌, ℤ, Option, Some, None}
use Rattle.sheet.specs.Words.{Sheet}
use Rattle.sheet.specs.Layout.{field, number}
use Rattle.sheet.specs.Fields.{programmes, objects, set_list}
use Rattle.values.specs.declared.Gain.{Gain}
use Rattle.values.specs.declared.Sort.{Sort}
use Rattle.values.specs.Signed.{signed_of}
use Rattle.values.specs.Gain.{gain_of, gain_in_range, legal_gain}
use Rattle.values.specs.Offset.{offset_in_range, legal_offset}
use Rattle.values.specs.Values.{is_absent}
use Rattle.profile.specs.Counting.{lowest}
use Rattle.profile.specs.Relations.{has_set, named_set, names_set, set_for, object_minimum, object_maximum, own_value, effective_value, effective_minimum, effective_maximum}
use Rattle.granted.specs.declared.Range.{Range}
use Rattle.granted.specs.Granted.{granted_minimum, granted_maximum}
use Rattle.granted.specs.Fitting.{same_gain, same_offset}

-- where the programme's set list has the first set of the object, the list's length where it has none
unfoldable pub set_place : Sheet → ℕ → ℕ → ℕ
set_place s p o = lowest (λ i. has_set s o (named_set s p i)) (number s programmes p set_list)

-- the set that the programme names for the object
unfoldable pub named_for : Sheet → ℕ → ℕ → Option ℕ
named_for s p o = cond (names_set s p o) (Some (set_for s p o)) None

-- the start value and the range of an object by its named set
unfoldable pub start_by : Sheet → ℕ → Option ℕ → Sort → ℕ
start_by s o (Some v) t = effective_value s o v t
start_by s o None t = own_value s o t

unfoldable pub range_by : Sheet → ℕ → Option ℕ → Sort → Range
range_by s o (Some v) t = record { minimum = effective_minimum s o v t; maximum = effective_maximum s o v t }
range_by s o None t = record { minimum = field s objects o (object_minimum t); maximum = field s objects o (object_maximum t) }

unfoldable pub granted_range : Sheet → ℕ → ℕ → Sort → Range
granted_range s p o t = record { minimum = granted_minimum s p o t; maximum = granted_maximum s p o t }

-- there is a range
unfoldable pub is_range : Range → Bool
is_range r = not (is_absent r.minimum)

-- a word stands for a gain, for an offset
unfoldable pub is_gain : ℕ → Gain → Bool
is_gain w g = same_gain g (gain_of w)

unfoldable pub is_offset : ℕ → ℤ → Bool
is_offset w z = same_offset z (signed_of w)

-- a gain, an offset is legal and in a range
unfoldable pub gain_within : Range → Gain → Bool
gain_within r g = legal_gain g && gain_in_range (gain_of r.minimum) g (gain_of r.maximum)

unfoldable pub offset_within : Range → ℤ → Bool
offset_within r z = legal_offset z && offset_in_range (signed_of r.minimum) z (signed_of r.maximum)

-- "its start value or legal in its range", of a sort of values: which words stand for a value, and in which ranges it is legal
unfoldable pub sound_by : {V : Type 0} → Sheet → ℕ → Option ℕ → Sort → (ℕ → V → Bool) → (Range → V → Bool) → V → Bool
sound_by s o m t is_word within v = is_word (start_by s o m t) v || is_range (range_by s o m t) && within (range_by s o m t) v
