-- The answers of the listening bench as text. Assumes nothing.
use Rattle.std.specs.Prelude.{ℕ, Bool, cond, List, [], ◌∷◌, ◌++◌, ℤ, Ok, Err}
use Rattle.sheet.specs.Words.{Sheet}
use Rattle.values.specs.declared.Gain.{Gain}
use Rattle.profile.specs.Counting.{concat_below}
use Rattle.listener.specs.declared.Setting.{Setting}
use Rattle.listener.specs.declared.State.{State}
use Rattle.listener.specs.State.{state_objects, setting, is_resting, refusal_number}
use Rattle.listener.specs.Calls.{Answer}
use Rattle.listener.specs.Listing.{listed_tracks, enough_words, listing_answer}
use Rattle.text.specs.Bytes.{ascii, join}
use Rattle.text.specs.Decimal.{decimal, signed_decimal, gain_text}

-- `done`, or as in `refused 28`
unfoldable pub answer_line : Answer → List ℕ
answer_line (Ok done) = ascii "done\n"
answer_line (Err r) = join (ascii "refused " ∷ decimal (refusal_number r) ∷ ascii "\n" ∷ [])

-- each word behind a space
unfoldable pub words_text : List ℕ → List ℕ
words_text [] = []
words_text (w ∷ ws) = ascii " " ++ decimal w ++ words_text ws

-- as in `tracks 0 1 5`, or why not
unfoldable pub tracks_line : List ℕ → Answer → List ℕ
tracks_line tracks (Ok done) = join (ascii "tracks" ∷ words_text tracks ∷ ascii "\n" ∷ [])
tracks_line tracks (Err r) = answer_line (Err r)

-- the listing of a state
unfoldable pub listing_line : Sheet → List ℕ → State → List ℕ
listing_line s langs st = tracks_line (listed_tracks s st) (listing_answer s langs st enough_words)

unfoldable pub activity_text : Bool → List ℕ
activity_text active = cond active (ascii " active") (ascii " inactive")

unfoldable pub name_text : ℕ → Bool → List ℕ
name_text o active = join (ascii "object " ∷ decimal o ∷ activity_text active ∷ [])

unfoldable pub values_text : Gain → ℤ → List ℕ
values_text gain offset = join (ascii " gain " ∷ gain_text gain ∷ ascii " offset " ∷ signed_decimal offset ∷ ascii "\n" ∷ [])

-- as in `object 3 active gain -60 offset 0`
unfoldable pub setting_line : ℕ → Setting → List ℕ
setting_line o x = join (name_text o x.active ∷ values_text x.gain x.offset ∷ [])

-- an object at rest has no line
unfoldable pub object_line : ℕ → Setting → List ℕ
object_line o x = cond (is_resting x) [] (setting_line o x)

unfoldable pub object_lines : State → List ℕ
object_lines st = concat_below (λ o. object_line o (setting st o)) state_objects

-- the programme, then each object that is not at rest
unfoldable pub state_lines : State → List ℕ
state_lines st = join (ascii "programme " ∷ decimal st.programme ∷ ascii "\n" ∷ object_lines st ∷ [])

-- the answer to a line that is no command
unfoldable pub unknown_line : List ℕ
unknown_line = ascii "?\n"
