-- Opening and the four calls. Document 01, "The listener", and its refusals 25 to 31 "in its checking order". Document 02, L2:
-- "Acceptance is now relative to that list, every call lent a sheet is lent it too". `langs` is the list of languages; what doesn't ask
-- for acceptance says nothing of it. Assumes nothing.
use Rattle.std.specs.Prelude.{ℕ, Bool, true, false, cond, not, ◌&&◌, List, [], ◌∷◌, eqb, leb, ltb, ℤ, set, ⊤, Result, Ok, Err}
use Rattle.sheet.specs.Words.{Sheet}
use Rattle.sheet.specs.Layout.{level, count}
use Rattle.sheet.specs.Fields.{programmes}
use Rattle.values.specs.declared.Gain.{Gain}
use Rattle.values.specs.declared.Sort.{Sort}
use Rattle.values.specs.declared.Sort.TheVariants.{Gains, Offsets}
use Rattle.profile.specs.declared.Verdict.{Verdict}
use Rattle.profile.specs.declared.Verdict.TheVariants.{Accepted, Broken}
use Rattle.profile.specs.Counting.{tabulate}
use Rattle.profile.specs.Relations.{leader_of, includes}
use Rattle.profile.specs.Verdict.{verdict}
use Rattle.listener.specs.declared.Setting.{Setting}
use Rattle.listener.specs.declared.State.{State}
use Rattle.listener.specs.declared.Refusal.{Refusal}
use Rattle.listener.specs.declared.Refusal.TheVariants.{NotAccepted, Unsound, NoProgramme, NotIncluded, NotInGroup, NoRange, Outside}
use Rattle.listener.specs.declared.Reply.{Reply}
use Rattle.listener.specs.State.{state_objects, resting_state, setting}
use Rattle.granted.specs.Granted.{grants, in_whole_group}
use Rattle.listener.specs.Programme.{started}
use Rattle.granted.specs.Fitting.{gain_fits, offset_fits}
use Rattle.listener.specs.Sound.{sound}

abbrev pub is_accepted : Verdict → Bool
is_accepted Accepted = true
is_accepted (Broken rule place) = false

-- "25. The sheet isn't accepted, or is level 0." Accepted under the list that is lent
unfoldable pub opens : Sheet → List ℕ → Bool
opens s langs = is_accepted (verdict s langs) && not (eqb (level s) 0)

-- a call's answer: it is done, or refused by a number
abbrev pub Answer : Type 0
Answer = Result ⊤ Refusal

-- a ground for refusal: the refusal, and whether it holds
pub record Ground : Type 0 where
  pub refusal : Refusal
  pub holds : Bool

-- the first ground that holds, in checking order
unfoldable pub answer_by : List Ground → Answer
answer_by [] = Ok tt
answer_by (g ∷ gs) = cond g.holds (Err g.refusal) (answer_by gs)

-- a refused call hands back the state that it was given, one that is done another
unfoldable pub reply_by : Answer → State → State → Reply
reply_by (Ok done) given made = record { answer = Ok done; state = made }
reply_by (Err r) given made = record { answer = Err r; state = given }

-- "25. The sheet isn't accepted, or is level 0." "26. The state isn't sound for the sheet."
unfoldable pub not_open : Sheet → List ℕ → Ground
not_open s langs = record { refusal = NotAccepted; holds = not (opens s langs) }

unfoldable pub not_sound : Sheet → State → Ground
not_sound s st = record { refusal = Unsound; holds = not (sound s st) }

-- "28. The object isn't included in the programme."
unfoldable pub not_included : Sheet → State → ℕ → Ground
not_included s st o = record { refusal = NotIncluded; holds = not (includes s st.programme o) }

-- "opening chooses 0"; "Opening can meet 25 only"
unfoldable pub opened : Sheet → List ℕ → Reply
opened s langs = reply_by (answer_by (not_open s langs ∷ [])) resting_state (started s 0)

-- "27. No such programme."
unfoldable pub no_programme : Sheet → ℕ → Ground
no_programme s p = record { refusal = NoProgramme; holds = leb (count s programmes) p }

-- "a programme choice 25 to 27"
unfoldable pub programme_answer : Sheet → List ℕ → State → ℕ → Answer
programme_answer s langs st p = answer_by (not_open s langs ∷ not_sound s st ∷ no_programme s p ∷ [])

unfoldable pub chosen_programme : Sheet → List ℕ → State → ℕ → Reply
chosen_programme s langs st p = reply_by (programme_answer s langs st p) st (started s p)

-- "29. The object isn't in a wholly included group."
unfoldable pub not_in_group : Sheet → State → ℕ → Ground
not_in_group s st o = record { refusal = NotInGroup; holds = not (in_whole_group s st.programme o) }

-- "an object choice 25, 26, 28, 29"
unfoldable pub object_answer : Sheet → List ℕ → State → ℕ → Answer
object_answer s langs st o = answer_by (not_open s langs ∷ not_sound s st ∷ not_included s st o ∷ not_in_group s st o ∷ [])

-- "Choosing an object makes it active and the rest of its group inactive."
unfoldable pub moved_setting : Sheet → State → ℕ → ℕ → Setting
moved_setting s st o q =
    cond (eqb (leader_of s q) (leader_of s o))
    (record { active = eqb q o; gain = (setting st q).gain; offset = (setting st q).offset })
    (setting st q)

unfoldable pub moved : Sheet → State → ℕ → State
moved s st o = record { programme = st.programme; objects = tabulate (moved_setting s st o) state_objects }

unfoldable pub chosen_object : Sheet → List ℕ → State → ℕ → Reply
chosen_object s langs st o = reply_by (object_answer s langs st o) st (moved s st o)

-- "30. No effective range of that sort."
unfoldable pub no_range : Sheet → State → ℕ → Sort → Ground
no_range s st o t = record { refusal = NoRange; holds = not (grants s st.programme o t) }

-- "31. The value isn't legal or is outside that range."
unfoldable pub outside_range : Bool → Ground
outside_range fits = record { refusal = Outside; holds = not fits }

-- "a gain or offset call 25, 26, 28, 30, 31"
unfoldable pub value_answer : Sheet → List ℕ → State → ℕ → Sort → Bool → Answer
value_answer s langs st o t fits = answer_by (not_open s langs ∷ not_sound s st ∷ not_included s st o ∷ no_range s st o t ∷ outside_range fits ∷ [])

-- "A gain or offset call stores the value in that object, active or not"
unfoldable pub with_setting : State → ℕ → Setting → State
with_setting st o x = record { programme = st.programme; objects = cond (ltb o state_objects) (set st.objects o x) st.objects }

unfoldable pub with_gain : State → ℕ → Gain → State
with_gain st o g = with_setting st o (record { active = (setting st o).active; gain = g; offset = (setting st o).offset })

unfoldable pub with_offset : State → ℕ → ℤ → State
with_offset st o z = with_setting st o (record { active = (setting st o).active; gain = (setting st o).gain; offset = z })

unfoldable pub gain_set : Sheet → List ℕ → State → ℕ → Gain → Reply
gain_set s langs st o g = reply_by (value_answer s langs st o Gains (gain_fits s st.programme o g)) st (with_gain st o g)

unfoldable pub offset_set : Sheet → List ℕ → State → ℕ → ℤ → Reply
offset_set s langs st o z = reply_by (value_answer s langs st o Offsets (offset_fits s st.programme o z)) st (with_offset st o z)
