-- Sound states. Document 01, "The listener": "Sound means: the programme exists; activity is as started, except that any one member of
-- a wholly included group may be the active one; each included object's gain and offset is its start value or legal in its range; the
-- rest are inactive, 0, 0." Assumes nothing.
use Rattle.std.specs.Prelude.{ℕ, Bool, cond, ◌&&◌, eqb, ltb}
use Rattle.sheet.specs.Words.{Sheet}
use Rattle.sheet.specs.Layout.{count}
use Rattle.sheet.specs.Fields.{programmes}
use Rattle.profile.specs.Counting.{how_many, every}
use Rattle.profile.specs.Relations.{member, members, leader_of, includes}
use Rattle.granted.specs.Granted.{in_whole_group}
use Rattle.granted.specs.Fitting.{sound_gain, sound_offset}
use Rattle.listener.specs.declared.State.{State}
use Rattle.listener.specs.State.{state_objects, setting, active, is_resting}

-- how many members of a leader's group are active
unfoldable pub active_members : Sheet → State → ℕ → ℕ
active_members s st l = how_many (λ i. active st (member s l i)) (members s l)

-- "activity is as started, except that any one member of a wholly included group may be the active one"
unfoldable pub sound_activity : Sheet → State → ℕ → Bool
sound_activity s st o = cond (in_whole_group s st.programme o) (eqb (active_members s st (leader_of s o)) 1) (active st o)

-- one object of a sound state
unfoldable pub sound_at : Sheet → State → ℕ → Bool
sound_at s st o =
    cond (includes s st.programme o)
    (sound_activity s st o && sound_gain s st.programme o (setting st o).gain && sound_offset s st.programme o (setting st o).offset)
    (is_resting (setting st o))

unfoldable pub sound : Sheet → State → Bool
sound s st = ltb st.programme (count s programmes) && every (sound_at s st) state_objects
