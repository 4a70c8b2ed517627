-- What choosing a programme gives the state. Document 01, "The listener", second paragraph. Assumes nothing.
use Rattle.std.specs.Prelude.{ℕ, cond}
use Rattle.sheet.specs.Words.{Sheet}
use Rattle.values.specs.declared.Sort.TheVariants.{Gains, Offsets}
use Rattle.values.specs.Signed.{signed_of}
use Rattle.values.specs.Gain.{gain_of}
use Rattle.profile.specs.Counting.{tabulate}
use Rattle.profile.specs.Relations.{includes}
use Rattle.granted.specs.Granted.{start_value, starts_active}
use Rattle.listener.specs.declared.Setting.{Setting}
use Rattle.listener.specs.declared.State.{State}
use Rattle.listener.specs.State.{state_objects, resting}

-- "Choosing a programme (opening chooses 0) starts it [..]. All others are inactive, 0, 0."
unfoldable pub start_setting : Sheet → ℕ → ℕ → Setting
start_setting s p o =
    cond (includes s p o)
    (record { active = starts_active s p o; gain = gain_of (start_value s p o Gains); offset = signed_of (start_value s p o Offsets) })
    resting

unfoldable pub started : Sheet → ℕ → State
started s p = record { programme = p; objects = tabulate (start_setting s p) state_objects }
