-- What goes by the set that a programme names for an object is what the programme gives it. Assumes nothing.
use Prim.Native.Nat.{ℕ}
use mathlib.Core.Path.{◌≡◌, refl}
use mathlib.Core.Bool.{Bool, true, false, cond}
use lib.IntN.{ℤ}
use Rattle.std.specs.Prelude.{Some, None}
use Rattle.sheet.specs.Words.{Sheet}
use Rattle.sheet.specs.Layout.{field}
use Rattle.sheet.specs.Fields.{objects}
use Rattle.values.specs.declared.Gain.{Gain}
use Rattle.values.specs.declared.Sort.{Sort}
use Rattle.values.specs.declared.Sort.TheVariants.{Gains, Offsets}
use Rattle.profile.specs.Relations.{names_set, set_for, object_minimum, object_maximum, own_value, effective_value, effective_minimum, effective_maximum}
use Rattle.granted.specs.declared.Range.{Range}
use Rattle.granted.specs.Granted.{start_value, granted_minimum, granted_maximum, grants}
use Rattle.granted.specs.Fitting.{gain_fits, offset_fits, sound_gain, sound_offset}
use Rattle.granted.specs.steps.NamedSet.{named_for, start_by, range_by, granted_range, is_gain, is_offset, is_range, gain_within, offset_within, sound_by}

module _ (s : Sheet) (p o : ℕ) where
  pub start_named : (t : Sort) → start_by s o (named_for s p o) t ≡ start_value s p o t
  unfolding start_by named_for start_value
  start_named t = by (names_set s p o)
    where
      by : (b : Bool) → start_by s o (cond b (Some (set_for s p o)) None) t ≡ cond b (effective_value s o (set_for s p o) t) (own_value s o t)
      by true = refl
      by false = refl

  pub range_named : (t : Sort) → range_by s o (named_for s p o) t ≡ granted_range s p o t
  unfolding range_by named_for granted_range granted_minimum granted_maximum
  range_named t = by (names_set s p o)
    where
      by : (b : Bool)
          → ◌≡◌ {A = Range}
          (range_by s o (cond b (Some (set_for s p o)) None) t)
          (record {
            minimum = cond b (effective_minimum s o (set_for s p o) t) (field s objects o (object_minimum t));
            maximum = cond b (effective_maximum s o (set_for s p o) t) (field s objects o (object_maximum t));
          })
      by true = refl
      by false = refl

  pub gain_named : (g : Gain) → sound_by s o (named_for s p o) Gains is_gain gain_within g ≡ sound_gain s p o g
  unfolding sound_by is_gain sound_gain is_range gain_within granted_range grants gain_fits
  gain_named g = rw (start_named Gains, range_named Gains) refl

  pub offset_named : (z : ℤ) → sound_by s o (named_for s p o) Offsets is_offset offset_within z ≡ sound_offset s p o z
  unfolding sound_by is_offset sound_offset is_range offset_within granted_range grants offset_fits
  offset_named z = rw (start_named Offsets, range_named Offsets) refl
