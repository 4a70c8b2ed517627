-- The machine with every definition open, so that the scripts of specs/Scripts.antt compute. Assumes nothing.
use Rattle.std.specs.Prelude.{ℕ, List, [], ◌∷◌, length, Result, Ok, Err}
use Rattle.sheet.specs.Words.{Sheet, sheet_of, words}
use Rattle.profile.specs.Counting.{every, concat_below, tabulate}
use Rattle.profile.specs.Relations.{set_for}
use Rattle.profile.specs.Judged.{judged}
use Rattle.listener.specs.declared.State.{State}
use Rattle.listener.specs.declared.Refusal.{Refusal}
use Rattle.granted.specs.Fitting.{same_gain, same_offset, gain_fits, offset_fits, sound_gain, sound_offset}
use Rattle.listener.specs.State.{resting_state, setting, active, is_resting, refusal_number}
use Rattle.granted.specs.Granted.{start_value, granted_minimum, granted_maximum, grants, in_whole_group, starts_active}
use Rattle.listener.specs.Programme.{start_setting, started}
use Rattle.listener.specs.Sound.{active_members, sound_activity, sound_at, sound}
use Rattle.listener.specs.Calls.{opens, answer_by, reply_by, not_open, not_sound, not_included, opened, no_programme, programme_answer, chosen_programme, not_in_group, object_answer, moved_setting, moved, chosen_object, no_range, outside_range, value_answer, with_setting, with_gain, with_offset, gain_set, offset_set}
use Rattle.listener.specs.Listing.{own_entries, object_entries, entries, listed_tracks, too_few_words, listing_answer, listed, buffered_by, buffered}
use Rattle.guarantee.specs.Run.{Call, reply, run}

-- 0 for a call that is done, else the refusal's number
unfoldable pub answer_number : {X : Type 0} → Result X Refusal → ℕ
answer_number (Ok done) = 0
answer_number (Err r) = refusal_number r

-- how many entries a listing has, 0 where it is refused
unfoldable pub entries_number : Result ℕ Refusal → ℕ
entries_number (Ok n) = n
entries_number (Err r) = 0

-- where a list of calls begins: at a fresh opening, or at a state that somebody handed in
pub data Beginning : Type 0 where
  fresh : Beginning
  handed : State → Beginning

-- what a list of calls and a listing behind it come to
pub record Outcome : Type 0 where
  pub answers : List ℕ  -- of the opening, if the beginning is fresh, and of each call
  pub state : State  -- that the last call handed back
  pub listing : ℕ  -- the listing's answer
  pub entries : ℕ  -- its number of entries
  pub buffer : List ℕ  -- the lent words afterwards

-- the answers of a list of calls, each of which takes the state that the last handed back
unfoldable pub answered : Sheet → List ℕ → State → List Call → List ℕ
answered s langs st [] = []
answered s langs st (c ∷ cs) = answer_number (reply s langs st c).answer ∷ answered s langs (reply s langs st c).state cs

-- the calls from a state, and then a listing into the buffer
unfoldable pub played_from : Sheet → List ℕ → State → List Call → List ℕ → List ℕ → Outcome
played_from s langs st calls buffer before =
    let end = run s langs st calls in
    record {
      answers = before;
      state = end;
      listing = answer_number (listed s langs end (length buffer));
      entries = entries_number (listed s langs end (length buffer));
      buffer = buffered s langs end buffer;
    }

unfoldable pub played_on : Sheet → List ℕ → Beginning → List Call → List ℕ → Outcome
played_on s langs fresh calls buffer =
    played_from s langs (opened s langs).state calls buffer (answer_number (opened s langs).answer ∷ answered s langs (opened s langs).state calls)
played_on s langs (handed st) calls buffer = played_from s langs st calls buffer (answered s langs st calls)

-- on lent bytes, a sheet and a list of languages: what opens it opens all that it rests on
unfoldable pub played : List ℕ → List ℕ → Beginning → List Call → List ℕ → Outcome
unfolding judged every concat_below tabulate set_for resting_state setting active same_gain same_offset is_resting start_value granted_minimum
    granted_maximum grants in_whole_group starts_active start_setting started gain_fits offset_fits sound_gain sound_offset active_members sound_activity
    sound_at sound opens answer_by reply_by not_open not_sound not_included opened no_programme programme_answer chosen_programme not_in_group object_answer
    moved_setting moved chosen_object no_range outside_range value_answer with_setting with_gain with_offset gain_set offset_set own_entries object_entries
    entries listed_tracks too_few_words listing_answer listed buffered_by buffered answer_number entries_number reply run answered played_from played_on
played bytes langs beginning calls buffer = played_on (sheet_of bytes) (words langs) beginning calls buffer
