-- Lists of calls. Document 01, "The listener": "The list, perhaps empty, starts from the state that opening gave. Each call takes the
-- state that the last handed back, refused or not. All, listing too, are lent the same sheet." Document 02, L2: "what holds after an
-- opening holds for calls lent the same sheet and the same list", which is `langs`. Assumes nothing.
use Rattle.std.specs.Prelude.{ℕ, List, [], ◌∷◌, ℤ, Ok, Err}
use Rattle.sheet.specs.Words.{Sheet}
use Rattle.values.specs.declared.Gain.{Gain}
use Rattle.listener.specs.declared.State.{State}
use Rattle.listener.specs.declared.Reply.{Reply}
use Rattle.listener.specs.Calls.{Answer, opened, programme_answer, chosen_programme, chosen_object, gain_set, offset_set}

-- the four calls, with any numbers
pub data Call : Type 0 where
  programme : ℕ → Call
  object : ℕ → Call
  gain : ℕ → Gain → Call
  offset : ℕ → ℤ → Call

-- what a call hands back
unfoldable pub reply : Sheet → List ℕ → State → Call → Reply
reply s langs st (programme p) = chosen_programme s langs st p
reply s langs st (object o) = chosen_object s langs st o
reply s langs st (gain o g) = gain_set s langs st o g
reply s langs st (offset o z) = offset_set s langs st o z

-- the state after a list of calls
unfoldable pub run : Sheet → List ℕ → State → List Call → State
run s langs st [] = st
run s langs st (c ∷ cs) = run s langs (reply s langs st c).state cs

-- the state after a list of calls from a fresh opening
unfoldable pub after : Sheet → List ℕ → List Call → State
after s langs cs = run s langs (opened s langs).state cs

-- a programme choice that was not refused chooses
abbrev pub chosen_by : Answer → ℕ → ℕ → ℕ
chosen_by (Ok done) p before = p
chosen_by (Err r) p before = before

-- "that of the last programme choice not refused", else the one before the list
unfoldable pub chosen : Sheet → List ℕ → State → ℕ → List Call → ℕ
chosen s langs st before [] = before
chosen s langs st before (programme p ∷ cs) = chosen s langs (reply s langs st (programme p)).state (chosen_by (programme_answer s langs st p) p before) cs
chosen s langs st before (object o ∷ cs) = chosen s langs (reply s langs st (object o)).state before cs
chosen s langs st before (gain o g ∷ cs) = chosen s langs (reply s langs st (gain o g)).state before cs
chosen s langs st before (offset o z ∷ cs) = chosen s langs (reply s langs st (offset o z)).state before cs

-- "The programme is that of the last programme choice not refused, 0 if there is none."
unfoldable pub last_chosen : Sheet → List ℕ → List Call → ℕ
last_chosen s langs cs = chosen s langs (opened s langs).state 0 cs
