-- The listener's state. Document 01, "The listener": "The state is a value that each call takes and hands back: a programme, and for
-- 84 objects active, gain, offset. Refused opening gives programme 0 and 84 times inactive, 0, 0." Assumes nothing.
use Rattle.std.specs.Prelude.{ℕ, Bool, false, cond, not, ◌&&◌, ltb, get_or, replicate, pos}
use Rattle.values.specs.declared.Gain.TheVariants.{Silent, Tenths}
use Rattle.granted.specs.Fitting.{same_gain, same_offset}
use Rattle.listener.specs.declared.Setting.{Setting}
use Rattle.listener.specs.declared.State.{State}
use Rattle.listener.specs.declared.Refusal.{Refusal}
use Rattle.listener.specs.declared.Refusal.TheVariants.{NotAccepted, Unsound, NoProgramme, NotIncluded, NotInGroup, NoRange, Outside, TooFewWords}

-- how many objects a state has
abbrev pub state_objects : ℕ
state_objects = 84

-- "inactive, 0, 0"
abbrev pub resting : Setting
resting = record { active = false; gain = Tenths (pos 0); offset = pos 0 }

-- "Refused opening gives programme 0 and 84 times inactive, 0, 0."
unfoldable pub resting_state : State
resting_state = record { programme = 0; objects = replicate state_objects resting }

-- past a state's end: what the language's own blank setting is
abbrev pub blank : Setting
blank = record { active = false; gain = Silent; offset = pos 0 }

-- an object's setting; a number past the state's end has a blank one
unfoldable pub setting : State → ℕ → Setting
setting st o = cond (ltb o state_objects) (get_or st.objects o blank) blank

-- an object is active
unfoldable pub active : State → ℕ → Bool
active st o = (setting st o).active

-- a setting is "inactive, 0, 0"
unfoldable pub is_resting : Setting → Bool
is_resting x = not x.active && same_gain x.gain (Tenths (pos 0)) && same_offset x.offset (pos 0)

-- document 01's numbers of the listener's own refusals
abbrev pub refusal_number : Refusal → ℕ
refusal_number NotAccepted = 25
refusal_number Unsound = 26
refusal_number NoProgramme = 27
refusal_number NotIncluded = 28
refusal_number NotInGroup = 29
refusal_number NoRange = 30
refusal_number Outside = 31
refusal_number TooFewWords = 32
