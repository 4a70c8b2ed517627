-- The tests of a state in the steps of the code: objects by their settings. Assumes nothing.
use Rattle.std.specs.Prelude.{ℕ, Bool, cond, ◌||◌, eqb, ltb}
use Rattle.sheet.specs.Words.{Sheet}
use Rattle.profile.specs.Counting.{every}
use Rattle.profile.specs.Relations.{leader_of}
use Rattle.listener.specs.declared.Setting.{Setting}
use Rattle.listener.specs.declared.State.{State}
use Rattle.listener.specs.State.{state_objects, setting, is_resting}

-- what choosing object o makes of the setting of object q
unfoldable pub moved_from : Sheet → ℕ → ℕ → Setting → Setting
moved_from s o q x = cond (eqb (leader_of s q) (leader_of s o)) (record { active = eqb q o; gain = x.gain; offset = x.offset }) x

-- the settings from a number on are "inactive, 0, 0"
unfoldable pub resting_from : State → ℕ → Bool
resting_from st n = every (λ o. ltb o n || is_resting (setting st o)) state_objects
