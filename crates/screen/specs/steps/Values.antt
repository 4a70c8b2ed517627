-- The values of an object and of its sets, as the screening tests them: on the words themselves. Assumes nothing.
use Rattle.std.specs.Prelude.{ℕ, ◌+◌, Bool, false, cond, not, ◌&&◌, ◌||◌, eqb, ltb}
use Rattle.sheet.specs.Words.{Sheet, word}
use Rattle.sheet.specs.Fields.{set_gain, set_own, set_gain_minimum, set_gain_maximum, set_offset, set_offset_minimum, set_offset_maximum}
use Rattle.values.specs.declared.Sort.{Sort}
use Rattle.values.specs.declared.Sort.TheVariants.{Gains, Offsets}
use Rattle.values.specs.Values.{is_absent, or_else}
use Rattle.profile.specs.Rules.{bad_words, leaves}
use Rattle.relations.specs.declared.sets.Values.{Values}
use Rattle.screen.specs.declared.ObjectValues.{ObjectValues}

-- three words
unfoldable pub values_at : Sheet → ℕ → ℕ → ℕ → Values
values_at s value minimum maximum = record { value = word s value; minimum = word s minimum; maximum = word s maximum }

-- a minimum or a maximum is present
abbrev pub has_range : Values → Bool
has_range v = not (is_absent v.minimum) || not (is_absent v.maximum)

-- neither a value nor a range is present
abbrev pub none_present : Values → Bool
none_present v = is_absent v.value && not (has_range v)

-- a value, 0 where it is absent, leaves its range
unfoldable pub own_leaves : Sort → Values → Bool
own_leaves t v = leaves t (or_else v.value 0) v.minimum v.maximum

-- a set's value leaves its effective range, or where it is the set's own, the object's range
unfoldable pub value_leaves : Sort → Bool → Values → Values → Bool
value_leaves t own set object =
    leaves t (or_else set.value (or_else object.value 0)) (cond own set.minimum object.minimum) (cond own set.maximum object.maximum)
    || not (is_absent set.value) && leaves t set.value object.minimum object.maximum

-- words outside their values, or half a pair
abbrev pub words_broken : Sort → Values → Bool
words_broken t v = bad_words t v.value v.minimum v.maximum

-- where a set has its gain with its range, and its offset
abbrev pub set_gains : Sheet → ℕ → Values
set_gains s at = values_at s (at + set_gain) (at + set_gain_minimum) (at + set_gain_maximum)

abbrev pub set_offsets : Sheet → ℕ → Values
set_offsets s at = values_at s (at + set_offset) (at + set_offset_minimum) (at + set_offset_maximum)

-- the words of a set that break rule 6, 16, 17 or 18 as a set of an object with these values
unfoldable pub set_words_broken : ℕ → Values → Values → ObjectValues → Bool
set_words_broken own gains offsets v =
    ltb 1 own
    || words_broken Gains gains
    || words_broken Offsets offsets
    || eqb own 0 && (has_range gains || has_range offsets)
    || eqb v.interact 0 && eqb own 1
    || (not (is_absent offsets.value) || has_range offsets) && not v.front
    || value_leaves Gains (eqb own 1) gains v.gains
    || value_leaves Offsets (eqb own 1) offsets v.offsets

-- the same of a set with own 0 that has no more than a gain
unfoldable pub gain_broken : Values → ObjectValues → Bool
gain_broken gains v =
    words_broken Gains gains
    || value_leaves Gains false gains v.gains
    || own_leaves Offsets v.offsets

-- the set whose words begin at an index does
unfoldable pub set_broken : Sheet → ObjectValues → ℕ → Bool
set_broken s v at = set_words_broken (word s (at + set_own)) (set_gains s at) (set_offsets s at) v
