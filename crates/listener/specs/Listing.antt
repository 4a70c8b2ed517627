-- Listing. Document 01, "The listener": "An object sounds while it is active, a child while its parent sounds, whatever the gain, silence
-- too." "Listing writes the tracks of active objects by rising index, children in list order, tracks in list order, and gives the number
-- of entries; a track that two active objects list is written twice; later words stay. A refused listing gives its number alone."
-- Assumes nothing.
use Rattle.std.specs.Prelude.{ℕ, Bool, cond, ◌&&◌, ◌||◌, List, [], ◌∷◌, ◌++◌, map, ltb, length, Result, Ok, Err}
use Rattle.std.proofs.lemmas.List.Edits.{sets}
use Rattle.sheet.specs.Words.{Sheet}
use Rattle.sheet.specs.Layout.{count, number, entry}
use Rattle.sheet.specs.Fields.{objects, track_list, child_list}
use Rattle.profile.specs.Counting.{any, concat_below, tabulate}
use Rattle.profile.specs.Relations.{lists, track_at}
use Rattle.listener.specs.declared.State.{State}
use Rattle.listener.specs.declared.Refusal.{Refusal}
use Rattle.listener.specs.declared.Refusal.TheVariants.{TooFewWords}
use Rattle.listener.specs.State.{state_objects, active}
use Rattle.listener.specs.Calls.{Answer, Ground, answer_by, not_open, not_sound}

-- the object sounds: "while it is active, a child while its parent sounds"
unfoldable pub sounds : Sheet → State → ℕ → Bool
sounds s st o = active st o || any (λ q. active st q && lists s objects q child_list o) (count s objects)

-- an entry with the sounding object that it was written from: "An object's own entries are those written from its track list"
pub record Entry : Type 0 where
  pub object : ℕ
  pub track : ℕ

-- an object's own entries, "tracks in list order"
unfoldable pub own_entries : Sheet → ℕ → List Entry
own_entries s o = tabulate (λ i. record { object = o; track = track_at s o i }) (number s objects o track_list)

-- what an active object gives: its own entries, then its children's, "children in list order"
unfoldable pub object_entries : Sheet → ℕ → List Entry
object_entries s o = own_entries s o ++ concat_below (λ i. own_entries s (entry s objects o child_list i)) (number s objects o child_list)

-- "the tracks of active objects by rising index"
unfoldable pub entries : Sheet → State → List Entry
entries s st = concat_below (λ o. cond (active st o) (object_entries s o) []) state_objects

-- what is written: the tracks of the entries
unfoldable pub listed_tracks : Sheet → State → List ℕ
listed_tracks s st = map (λ (e : Entry). e.track) (entries s st)

-- as many words as a listing at level 1 or 2 needs
abbrev pub enough_words : ℕ
enough_words = 28

-- "32. The listing buffer has too few words."
unfoldable pub too_few_words : Sheet → State → ℕ → Ground
too_few_words s st words = record { refusal = TooFewWords; holds = ltb words (length (entries s st)) }

-- "listing 25, 26, 32"
unfoldable pub listing_answer : Sheet → List ℕ → State → ℕ → Answer
listing_answer s langs st words = answer_by (not_open s langs ∷ not_sound s st ∷ too_few_words s st words ∷ [])

-- the number of entries, or why it is refused
abbrev pub listed_by : ℕ → Answer → Result ℕ Refusal
listed_by n (Ok done) = Ok n
listed_by n (Err r) = Err r

-- what listing into so many words gives
unfoldable pub listed : Sheet → List ℕ → State → ℕ → Result ℕ Refusal
listed s langs st words = listed_by (length (entries s st)) (listing_answer s langs st words)

-- "later words stay", a refused listing writes nothing
unfoldable pub buffered_by : List ℕ → List ℕ → Answer → List ℕ
buffered_by buffer written (Ok done) = sets buffer 0 written
buffered_by buffer written (Err r) = buffer

-- the buffer's words afterwards
unfoldable pub buffered : Sheet → List ℕ → State → List ℕ → List ℕ
buffered s langs st buffer = buffered_by buffer (listed_tracks s st) (listing_answer s langs st (length buffer))
