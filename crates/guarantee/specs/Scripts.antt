-- Scripts: lists of calls and a listing behind them, with every answer, the whole state and the buffer's words that they come to. What is
-- expected was worked out by hand from document 01, "The listener", and not taken from the computation. Assumes nothing.
use Rattle.std.specs.Prelude.{ℕ, ◌+◌, ◌-◌, ◌≡◌, refl, true, false, List, [], ◌∷◌, ◌++◌, map, ℤ, pos, negsuc, length, set, replicate}
use Rattle.sheet.specs.Words.{words, sheet_of}
use Rattle.values.specs.declared.Gain.{Gain}
use Rattle.values.specs.declared.Gain.TheVariants.{Silent, Tenths}
use Rattle.profile.specs.Build.{build, put, bytes_of, eng, row_entries, row_words, section_words, section_entries, pairs, programme as programme_row, content, plain, object as object_row, slider, leaf, below, speakers, front_pack, side_pack, channel_tracks, gain_row}
use Rattle.profile.specs.Cases.{listed_eng}
use Rattle.listener.specs.declared.Setting.{Setting}
use Rattle.listener.specs.declared.State.{State}
use Rattle.listener.specs.State.{state_objects, resting}
use Rattle.guarantee.specs.Run.{Call}
use Rattle.guarantee.specs.Run.Call.{programme, object, gain, offset}
use Rattle.guarantee.specs.Played.{Beginning, Outcome, played_on, played}
use Rattle.guarantee.specs.Played.Beginning.{fresh, handed}
use Rattle.guarantee.specs.ScriptSheets.{play_words, play, broken_play, level_zero_play, ranges, family, pair, two_beds}

-- a number below 0
abbrev minus : ℕ → ℤ
minus n = negsuc (n - 1)

-- gains of 0 and above, and below 0, in tenths
abbrev up : ℕ → Gain
up n = Tenths (pos n)

abbrev down : ℕ → Gain
down n = Tenths (minus n)

-- an active object's gain and offset, and an inactive one's
abbrev on : Gain → ℤ → Setting
on g z = record { active = true; gain = g; offset = z }

abbrev off : Gain → ℤ → Setting
off g z = record { active = false; gain = g; offset = z }

-- an object with its setting
pub record Of : Type 0 where
  pub object : ℕ
  pub setting : Setting

infix 90 ◌is◌
abbrev ◌is◌ : ℕ → Setting → Of
◌is◌ o x = record { object = o; setting = x }

-- a state: its programme and the settings of some objects; all others are "inactive, 0, 0"
unfoldable pub placed : List Setting → List Of → List Setting
placed settings [] = settings
placed settings (x ∷ xs) = placed (set settings x.object x.setting) xs

unfoldable pub state : ℕ → List Of → State
state p xs = record { programme = p; objects = placed (replicate state_objects resting) xs }

-- a call with the number of its answer, 0 where it is done
pub record Step : Type 0 where
  pub call : Call
  pub answer : ℕ

infix 90 ◌gives◌
abbrev ◌gives◌ : Call → ℕ → Step
◌gives◌ c n = record { call = c; answer = n }

-- the bytes of a sheet and of the list of languages that opening and all calls are lent, with the calls and what they come to
pub record Script : Type 0 where
  pub bytes : List ℕ
  pub langs : List ℕ
  pub beginning : Beginning
  pub steps : List Step
  pub buffer : List ℕ
  pub outcome : Outcome

-- lent words before a listing
abbrev lent : ℕ → List ℕ
lent n = replicate n 999

abbrev answers_of : List Step → List ℕ
answers_of = map (λ (x : Step). x.answer)

-- from a fresh opening that is done, under a list of languages; the listing has exactly enough space for the tracks
unfoldable pub script_under : List ℕ → List ℕ → List Step → State → List ℕ → Script
script_under langs bytes steps end tracks =
    record {
      bytes = bytes;
      langs = langs;
      beginning = fresh;
      steps = steps;
      buffer = lent (length tracks);
      outcome = record { answers = 0 ∷ answers_of steps; state = end; listing = 0; entries = length tracks; buffer = tracks };
    }

-- under the list with "eng", the one language of these sheets
unfoldable pub script : List ℕ → List Step → State → List ℕ → Script
script bytes steps end tracks = script_under listed_eng bytes steps end tracks

-- from a state that is handed in, which is sound
unfoldable pub resumed : List ℕ → State → List Step → State → List ℕ → Script
resumed bytes begin steps end tracks =
    record {
      bytes = bytes;
      langs = listed_eng;
      beginning = handed begin;
      steps = steps;
      buffer = lent (length tracks);
      outcome = record { answers = answers_of steps; state = end; listing = 0; entries = length tracks; buffer = tracks };
    }

-- from a state that is not sound for the sheet: these calls and the listing are refused by 26, and the state stays
unfoldable pub unsound : List ℕ → List Call → State → Script
unsound bytes calls begin =
    record {
      bytes = bytes;
      langs = listed_eng;
      beginning = handed begin;
      steps = map (λ c. c gives 26) calls;
      buffer = lent 8;
      outcome = record { answers = map (λ c. 26) calls; state = begin; listing = 26; entries = 0; buffer = lent 8 };
    }

-- opening under a list of languages is refused by 25, and so are these calls and the listing: "Refused opening gives programme 0 and 84
-- times inactive, 0, 0."
unfoldable pub unopened_under : List ℕ → List ℕ → List Call → Script
unopened_under langs bytes calls =
    record {
      bytes = bytes;
      langs = langs;
      beginning = fresh;
      steps = map (λ c. c gives 25) calls;
      buffer = lent 8;
      outcome = record { answers = 25 ∷ map (λ c. 25) calls; state = state 0 []; listing = 25; entries = 0; buffer = lent 8 };
    }

-- under the usual list
unfoldable pub unopened : List ℕ → List Call → Script
unopened bytes calls = unopened_under listed_eng bytes calls

-- from a state that is handed in under a list by which the sheet isn't accepted: these calls and the listing are refused by 25, and the
-- state comes back
unfoldable pub kept_under : List ℕ → List ℕ → List Call → State → Script
kept_under langs bytes calls begin =
    record {
      bytes = bytes;
      langs = langs;
      beginning = handed begin;
      steps = map (λ c. c gives 25) calls;
      buffer = lent 8;
      outcome = record { answers = map (λ c. 25) calls; state = begin; listing = 25; entries = 0; buffer = lent 8 };
    }

-- the play's objects as programme 0 starts them: of the group the leader only is active
abbrev bed : Of
bed = 0 is on (up 0) (pos 0)

abbrev english : Of
english = 1 is on (up 0) (pos 0)

abbrev rain : Of
rain = 4 is on (down 30) (pos 100)

abbrev door : Of
door = 5 is on (up 0) (minus 150)

-- narrator 2 and the rain in programme 1, which has one of the group: the rain has set 0's gain and, since set 0 has none, its own offset
abbrev german : Of
german = 2 is on (up 0) (pos 0)

abbrev german_rain : Of
german_rain = 4 is on (down 120) (pos 100)

-- the play's programmes as they start, and the tracks that they list
unfoldable pub play_start : State
play_start = state 0 (bed ∷ english ∷ rain ∷ door ∷ [])

abbrev play_tracks : List ℕ
play_tracks = 0 ∷ 1 ∷ 2 ∷ 5 ∷ 6 ∷ []

unfoldable pub german_start : State
german_start = state 1 (bed ∷ german ∷ german_rain ∷ [])

abbrev german_tracks : List ℕ
german_tracks = 0 ∷ 1 ∷ 3 ∷ 5 ∷ []

-- a listing of the play as it opens, into words of which these are the ones afterwards
unfoldable pub listing : List ℕ → ℕ → ℕ → List ℕ → Script
listing before answer entries words =
    record {
      bytes = play;
      langs = listed_eng;
      beginning = fresh;
      steps = [];
      buffer = before;
      outcome = record { answers = 0 ∷ []; state = play_start; listing = answer; entries = entries; buffer = words };
    }

-- a call of each of the four, refused for many reasons at once: the first in checking order is given
abbrev any_calls : List Call
any_calls = programme 9 ∷ object state_objects ∷ gain state_objects (up 500) ∷ offset 65535 (pos 32767) ∷ []

-- refusals 27 to 31 in the play's programme 0; 28 before 29 and 30, 30 before 31; no offset range where there is a gain range
abbrev refused_steps : List Step
refused_steps =
    programme 2 gives 27
    ∷ programme 65535 gives 27
    ∷ object 6 gives 28
    ∷ object state_objects gives 28
    ∷ object 65535 gives 28
    ∷ object 0 gives 29
    ∷ object 4 gives 29
    ∷ gain 6 (up 0) gives 28
    ∷ gain 0 (up 0) gives 30
    ∷ gain 0 (up 500) gives 30
    ∷ offset 1 (pos 0) gives 30
    ∷ gain 1 (up 91) gives 31
    ∷ gain 1 (down 61) gives 31
    ∷ gain 1 Silent gives 31
    ∷ gain 1 (up 32767) gives 31
    ∷ offset 4 (pos 301) gives 31
    ∷ offset 5 (pos 1) gives 31
    ∷ []

-- the ends of the ranges are in them
abbrev boundary_steps : List Step
boundary_steps =
    gain 1 (up 90) gives 0
    ∷ gain 1 (down 60) gives 0
    ∷ gain 4 (down 300) gives 0
    ∷ gain 4 (up 60) gives 0
    ∷ offset 4 (pos 300) gives 0
    ∷ offset 4 (minus 300) gives 0
    ∷ offset 5 (pos 0) gives 0
    ∷ offset 5 (minus 300) gives 0
    ∷ []

-- silence as a gain: it is in the door's range and not in the rain's; a number below -600 is no gain, -32768 neither
abbrev silence_steps : List Step
silence_steps =
    gain 5 (down 600) gives 0
    ∷ gain 5 (down 601) gives 31
    ∷ gain 5 (down 32768) gives 31
    ∷ gain 5 (up 1) gives 31
    ∷ gain 5 Silent gives 0
    ∷ gain 4 Silent gives 31
    ∷ []

-- programme 1 names a set with ranges of its own for the rain: 0.1 dB and -0.1 degrees are in the object's, not in the set's. Of the group
-- narrator 2 alone is included: it cannot be chosen, and the others are not included
abbrev german_steps : List Step
german_steps =
    programme 1 gives 0
    ∷ gain 4 (up 1) gives 31
    ∷ gain 4 (up 0) gives 0
    ∷ offset 4 (minus 1) gives 31
    ∷ offset 4 (pos 201) gives 31
    ∷ offset 4 (pos 200) gives 0
    ∷ object 2 gives 29
    ∷ object 1 gives 28
    ∷ gain 1 (up 0) gives 28
    ∷ offset 5 (pos 0) gives 28
    ∷ gain 2 (up 90) gives 0
    ∷ programme 2 gives 27
    ∷ []

unfoldable pub scripts : List Script
unfolding script script_under resumed unsound unopened unopened_under kept_under listing listed_eng play_start german_start state placed play_words play broken_play level_zero_play ranges family pair two_beds build put bytes_of row_entries row_words section_words section_entries pairs programme_row content plain object_row slider leaf below speakers front_pack side_pack channel_tracks gain_row played
scripts =
    -- The play: the empty list of calls
    script play [] play_start play_tracks
    -- a refused call changes nothing
    ∷ script play refused_steps play_start play_tracks
    ∷ script play boundary_steps (state 0 (bed ∷ 1 is on (down 60) (pos 0) ∷ 4 is on (up 60) (minus 300) ∷ 5 is on (up 0) (minus 300) ∷ [])) play_tracks
    -- the door sounds "whatever the gain, silence too"
    ∷ script play silence_steps (state 0 (bed ∷ english ∷ rain ∷ 5 is on Silent (minus 150) ∷ [])) play_tracks
    -- the programme chosen anew: values and activity back to their start
    ∷ script play (gain 4 (up 0) gives 0 ∷ offset 4 (pos 0) gives 0 ∷ gain 1 (up 90) gives 0 ∷ object 3 gives 0 ∷ programme 0 gives 0 ∷ []) play_start play_tracks
    -- no slider is carried over into another programme, the values of an object that both include neither
    ∷ script play (gain 4 (down 50) gives 0 ∷ offset 4 (pos 50) gives 0 ∷ gain 2 (up 90) gives 0 ∷ programme 1 gives 0 ∷ []) german_start german_tracks
    -- and none is kept for a return
    ∷ script play (gain 4 (down 50) gives 0 ∷ programme 1 gives 0 ∷ gain 4 (down 200) gives 0 ∷ programme 0 gives 0 ∷ []) play_start play_tracks
    -- an object choice: the leader falls inactive, gains stay where they are; a gain is stored, "active or not"
    ∷ script play
    (gain 1 (up 90) gives 0 ∷ object 3 gives 0 ∷ gain 2 (down 60) gives 0 ∷ [])
    (state 0 (bed ∷ 1 is off (up 90) (pos 0) ∷ 2 is off (down 60) (pos 0) ∷ 3 is on (up 0) (pos 0) ∷ rain ∷ door ∷ []))
    (0 ∷ 1 ∷ 4 ∷ 5 ∷ 6 ∷ [])
    -- one choice after another, the active one chosen again, and back to the leader
    ∷ script play (object 2 gives 0 ∷ object 3 gives 0 ∷ object 3 gives 0 ∷ object 1 gives 0 ∷ []) play_start play_tracks
    -- the range of the set that the programme names
    ∷ script play german_steps (state 1 (bed ∷ 2 is on (up 90) (pos 0) ∷ 4 is on (up 0) (pos 200) ∷ [])) german_tracks
    -- the listing's space: one word too few, none, and two to spare, which stay
    ∷ listing (lent 4) 32 0 (lent 4)
    ∷ listing [] 32 0 []
    ∷ listing (lent 7) 0 5 (0 ∷ 1 ∷ 2 ∷ 5 ∷ 6 ∷ 999 ∷ 999 ∷ [])
    -- 25: a sheet that breaks rule 14, and one that is accepted at level 0
    ∷ unopened broken_play any_calls
    ∷ unopened level_zero_play any_calls
    -- 25 by the list of languages. The play's is not in it: an empty list, a byte alone, which is none, and another word
    ∷ unopened_under [] play any_calls
    ∷ unopened_under (21 ∷ []) play any_calls
    ∷ unopened_under (bytes_of ((eng + 1) ∷ [])) play any_calls
    -- a list that has it and doesn't rise: twice the same word, and a lower one behind it
    ∷ unopened_under (bytes_of (eng ∷ eng ∷ [])) play any_calls
    ∷ unopened_under (bytes_of (1 ∷ eng ∷ 2 ∷ [])) play any_calls
    -- more languages than the sheet has, and an odd last byte
    ∷ script_under (bytes_of (1 ∷ eng ∷ (eng + 1) ∷ []) ++ 0 ∷ []) play (object 3 gives 0 ∷ object 1 gives 0 ∷ []) play_start play_tracks
    -- a state that an opening under the usual list gave comes back under another list, and goes on under the usual one
    ∷ kept_under (bytes_of ((eng + 1) ∷ [])) play any_calls play_start
    ∷ kept_under (bytes_of ((eng + 1) ∷ [])) play (programme 1 ∷ object 3 ∷ gain 1 (up 90) ∷ offset 5 (pos 0) ∷ []) play_start
    ∷ resumed play play_start (programme 1 gives 0 ∷ []) german_start german_tracks
    -- 25 before 26 there too
    ∷ kept_under [] play any_calls (state 0 [])
    -- 26, before all but 25. The resting state: the bed is inactive
    ∷ unsound play any_calls (state 0 [])
    -- no such programme
    ∷ unsound play (programme 0 ∷ []) (state 2 [])
    -- two of a group active, and none
    ∷ unsound play (object 2 ∷ []) (state 0 (bed ∷ english ∷ german ∷ rain ∷ door ∷ []))
    ∷ unsound play (object 1 ∷ []) (state 0 (bed ∷ rain ∷ door ∷ []))
    -- a gain other than the start's without a range, one outside its range, and one that is none; an offset without a range
    ∷ unsound play (programme 0 ∷ []) (state 0 (0 is on (up 1) (pos 0) ∷ english ∷ rain ∷ door ∷ []))
    ∷ unsound play (programme 0 ∷ []) (state 0 (bed ∷ 1 is on (up 91) (pos 0) ∷ rain ∷ door ∷ []))
    ∷ unsound play (programme 0 ∷ []) (state 0 (bed ∷ english ∷ rain ∷ 5 is on (down 32768) (minus 150) ∷ []))
    ∷ unsound play (programme 0 ∷ []) (state 0 (bed ∷ 1 is on (up 0) (pos 1) ∷ rain ∷ door ∷ []))
    -- an object that is not included, and one past the sheet's, that is not "inactive, 0, 0"
    ∷ unsound play (programme 0 ∷ []) (state 1 (bed ∷ 1 is off (up 5) (pos 0) ∷ german ∷ german_rain ∷ []))
    ∷ unsound play (programme 0 ∷ []) (state 1 (bed ∷ german ∷ german_rain ∷ 83 is off (up 0) (pos 1) ∷ []))
    -- a sound state of another session goes on
    ∷ resumed play (state 0 (bed ∷ 2 is on (up 7) (pos 0) ∷ 3 is off (down 8) (pos 0) ∷ rain ∷ 5 is on Silent (minus 150) ∷ []))
    (object 3 gives 0 ∷ [])
    (state 0 (bed ∷ 2 is off (up 7) (pos 0) ∷ 3 is on (down 8) (pos 0) ∷ rain ∷ 5 is on Silent (minus 150) ∷ []))
    (0 ∷ 1 ∷ 4 ∷ 5 ∷ 6 ∷ [])
    -- One object under five programmes: its own range; the same by a set that says nothing
    ∷ script ranges (gain 0 (up 121) gives 31 ∷ gain 0 (up 120) gives 0 ∷ []) (state 0 (0 is on (up 120) (pos 0) ∷ [])) (0 ∷ [])
    ∷ script ranges
    (programme 1 gives 0 ∷ gain 0 (down 121) gives 31 ∷ gain 0 (down 120) gives 0 ∷ offset 0 (pos 0) gives 30 ∷ [])
    (state 1 (0 is on (down 120) (pos 0) ∷ []))
    (0 ∷ [])
    -- own 1 with absent words grants no range, not even for the start value; a gain other than that is unsound
    ∷ script ranges (programme 2 gives 0 ∷ gain 0 (up 0) gives 30 ∷ gain 0 (up 20) gives 30 ∷ []) (state 2 (0 is on (up 20) (pos 0) ∷ [])) (0 ∷ [])
    ∷ unsound ranges (programme 0 ∷ []) (state 2 (0 is on (up 0) (pos 0) ∷ []))
    -- a set's own range may be wider than the object's
    ∷ script ranges
    (programme 3 gives 0 ∷ gain 0 Silent gives 31 ∷ gain 0 (up 211) gives 31 ∷ gain 0 (up 210) gives 0 ∷ gain 0 (down 600) gives 0 ∷ [])
    (state 3 (0 is on (down 600) (pos 0) ∷ []))
    (0 ∷ [])
    -- a set's own gain at the start, and its range: from silence to 0
    ∷ script ranges (programme 4 gives 0 ∷ []) (state 4 (0 is on (down 40) (pos 0) ∷ [])) (0 ∷ [])
    ∷ script ranges (programme 4 gives 0 ∷ gain 0 (up 1) gives 31 ∷ gain 0 Silent gives 0 ∷ []) (state 4 (0 is on Silent (pos 0) ∷ [])) (0 ∷ [])
    -- Children stand at their parent's turn in the order of its list; they are not included, and never active
    ∷ script family
    (object 0 gives 28 ∷ gain 3 (up 0) gives 28 ∷ offset 0 (pos 0) gives 28 ∷ object 1 gives 29 ∷ gain 1 (up 60) gives 0 ∷ offset 1 (pos 0) gives 30 ∷ [])
    (state 0 (1 is on (up 60) (pos 0) ∷ 2 is on (up 0) (pos 0) ∷ []))
    (1 ∷ 0 ∷ 3 ∷ 2 ∷ [])
    ∷ script family (programme 1 gives 0 ∷ gain 2 (up 0) gives 28 ∷ []) (state 1 (1 is on (up 0) (pos 0) ∷ [])) (1 ∷ 0 ∷ [])
    ∷ unsound family (programme 0 ∷ []) (state 0 (0 is on (up 0) (pos 0) ∷ 1 is on (up 0) (pos 0) ∷ 2 is on (up 0) (pos 0) ∷ []))
    -- A group with a set for each member, whose leader is not its lowest number; a track that two active objects list stands twice
    ∷ script pair [] (state 0 (0 is off (down 50) (pos 0) ∷ 1 is on (down 50) (pos 0) ∷ 2 is on (up 0) (pos 0) ∷ [])) (0 ∷ 0 ∷ [])
    ∷ script pair
    (gain 1 (up 60) gives 0 ∷ gain 1 (up 61) gives 31 ∷ object 2 gives 29 ∷ object 0 gives 0 ∷ [])
    (state 0 (0 is on (down 50) (pos 0) ∷ 1 is off (up 60) (pos 0) ∷ 2 is on (up 0) (pos 0) ∷ []))
    (0 ∷ 0 ∷ [])
    ∷ script pair (object 0 gives 0 ∷ programme 1 gives 0 ∷ object 0 gives 28 ∷ []) (state 1 (2 is on (up 0) (pos 0) ∷ [])) (0 ∷ [])
    -- Level 2: 28 entries
    ∷ script two_beds [] (state 0 (0 is on (up 0) (pos 0) ∷ 1 is on (up 0) (pos 0) ∷ [])) (below 28)
    ∷ []

-- each script comes to its outcome
pub scripts_hold : map (λ (x : Script). played_on (sheet_of x.bytes) (words x.langs) x.beginning (map (λ (y : Step). y.call) x.steps) x.buffer) scripts ≡ map (λ (x : Script). x.outcome) scripts
unfolding scripts played
scripts_hold = refl
