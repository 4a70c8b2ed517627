-- The listing's entries and the tracks that the code writes are the same. Assumes nothing.
use Prim.Native.Nat.{ℕ, zero, suc, ◌+◌, ◌<◌, ◌≤◌}
use mathlib.Core.Path.{◌≡◌, refl, sym, ap, ap₂, ◌∙◌}
use mathlib.Core.Bool.{Bool, true, false, cond}
use mathlib.Core.List.{List, [], ◌∷◌, ◌++◌, map}
use borrow.Author.Tests.{lt-ltb, le-ltb}
use lib.ListN.{length, length-append, length-map}
use lib.Seq.{sets}
use Rattle.sheet.specs.Words.{Sheet}
use Rattle.sheet.specs.Layout.{number, entry}
use Rattle.sheet.specs.Fields.{objects, track_list, child_list}
use Rattle.profile.specs.Counting.{concat_below, tabulate}
use Rattle.profile.proofs.ListLaws.{length_concat, length_tabulate}
use Rattle.profile.proofs.SumLaws.{sum_eq}
use Rattle.relations.specs.steps.Sizes.{children_tracks}
use Rattle.profile.specs.Relations.{track_at}
use Rattle.listener.specs.declared.State.{State}
use Rattle.std.specs.Prelude.{Result, Ok, Err}
use Rattle.listener.specs.declared.Refusal.{Refusal}
use Rattle.listener.specs.declared.Refusal.TheVariants.{TooFewWords}
use Rattle.listener.specs.State.{state_objects, active}
use Rattle.listener.specs.Calls.{Answer, answer_by, not_open, not_sound}
use Rattle.listener.specs.Listing.{Entry, own_entries, object_entries, entries, listed_tracks, too_few_words, listing_answer, listed_by, buffered_by}
use Rattle.listener.specs.steps.Tracks.{own_tracks, child_tracks, object_tracks, tracks_when, state_tracks, object_number, number_when, state_number}
use Rattle.listener.proofs.AnswerLaws.{behind, stopped}

abbrev track : Entry → ℕ
track e = e.track

tracks_append : (xs ys : List Entry) → map track (xs ++ ys) ≡ map track xs ++ map track ys
tracks_append [] ys = refl
tracks_append (x ∷ xs) ys = ap (λ (l : List ℕ). x.track ∷ l) (tracks_append xs ys)

tracks_concat : (f : ℕ → List Entry) (g : ℕ → List ℕ) (n : ℕ) → ((k : ℕ) → map track (f k) ≡ g k) → map track (concat_below f n) ≡ concat_below g n
unfolding concat_below
tracks_concat f g zero h = refl
tracks_concat f g (suc n) h = tracks_append (concat_below f n) (f n) ∙ ap₂ (λ (x y : List ℕ). x ++ y) (tracks_concat f g n h) (h n)

own_tracks_lem : (s : Sheet) (o : ℕ) → map track (own_entries s o) ≡ own_tracks s o
unfolding own_entries own_tracks tabulate
own_tracks_lem s o = tracks_concat (λ i. record { object = o; track = track_at s o i } ∷ []) (λ i. track_at s o i ∷ []) (number s objects o track_list) (λ k. refl)

object_tracks_lem : (s : Sheet) (o : ℕ) → map track (object_entries s o) ≡ object_tracks s o
unfolding object_entries object_tracks child_tracks
object_tracks_lem s o =
    tracks_append (own_entries s o) (concat_below (λ i. own_entries s (entry s objects o child_list i)) (number s objects o child_list))
    ∙ ap₂ (λ (x y : List ℕ). x ++ y) (own_tracks_lem s o)
    (tracks_concat (λ i. own_entries s (entry s objects o child_list i)) (λ i. own_tracks s (entry s objects o child_list i)) (number s objects o child_list) (λ k. own_tracks_lem s (entry s objects o child_list k)))

tracks_when_lem : (b : Bool) (xs : List Entry) (ys : List ℕ) → map track xs ≡ ys → map track (cond b xs []) ≡ cond b ys []
tracks_when_lem true xs ys e = e
tracks_when_lem false xs ys e = refl

pub listed_tracks_lem : (s : Sheet) (st : State) → listed_tracks s st ≡ state_tracks s st
unfolding listed_tracks entries state_tracks tracks_when
listed_tracks_lem s st =
    tracks_concat (λ o. cond (active st o) (object_entries s o) []) (λ o. cond (active st o) (object_tracks s o) []) state_objects
    (λ o. tracks_when_lem (active st o) (object_entries s o) (object_tracks s o) (object_tracks_lem s o))

own_number : (s : Sheet) (o : ℕ) → length (own_tracks s o) ≡ number s objects o track_list
unfolding own_tracks
own_number s o = length_tabulate (track_at s o) (number s objects o track_list)

object_number_lem : (s : Sheet) (o : ℕ) → length (object_tracks s o) ≡ object_number s o
unfolding object_tracks child_tracks object_number children_tracks
object_number_lem s o =
    length-append (own_tracks s o) (concat_below (λ i. own_tracks s (entry s objects o child_list i)) (number s objects o child_list))
    ∙ ap₂ (λ (x y : ℕ). x + y) (own_number s o)
    (length_concat (λ i. own_tracks s (entry s objects o child_list i)) (number s objects o child_list)
    ∙ sum_eq (λ i. length (own_tracks s (entry s objects o child_list i))) (λ i. number s objects (entry s objects o child_list i) track_list) (number s objects o child_list) (λ i l. own_number s (entry s objects o child_list i)))

length_when : (b : Bool) (xs : List ℕ) → length (cond b xs []) ≡ cond b (length xs) 0
length_when true xs = refl
length_when false xs = refl

pub state_number_lem : (s : Sheet) (st : State) → length (state_tracks s st) ≡ state_number s st
unfolding state_tracks state_number tracks_when number_when
state_number_lem s st =
    length_concat (λ o. cond (active st o) (object_tracks s o) []) state_objects
    ∙ sum_eq (λ o. length (cond (active st o) (object_tracks s o) [])) (λ o. cond (active st o) (object_number s o) 0) state_objects
    (λ o l. length_when (active st o) (object_tracks s o) ∙ ap (λ (n : ℕ). cond (active st o) n 0) (object_number_lem s o))

pub entries_number : (s : Sheet) (st : State) → length (entries s st) ≡ state_number s st
unfolding listed_tracks
entries_number s st = sym (length-map (entries s st) track) ∙ ap length (listed_tracks_lem s st) ∙ state_number_lem s st

-- the answer behind 25 and 26
module _ (s : Sheet) (langs : List ℕ) (st : State) (words : ℕ) (a : Answer) (e : a ≡ answer_by (not_open s langs ∷ not_sound s st ∷ [])) where
  pub listing_behind : a ≡ Ok tt → listing_answer s langs st words ≡ answer_by (too_few_words s st words ∷ [])
  unfolding listing_answer
  listing_behind = behind (not_open s langs) (not_sound s st) (too_few_words s st words ∷ []) a e

  pub listing_stopped : (r : Refusal) → a ≡ Err r → listing_answer s langs st words ≡ Err r
  unfolding listing_answer
  listing_stopped = stopped (not_open s langs) (not_sound s st) (too_few_words s st words ∷ []) a e

-- 32 alone: what is given, and the words afterwards
module _ (s : Sheet) (st : State) (buffer : List ℕ) where
  abbrev pub Gives : Result ℕ Refusal → List ℕ → Type 0
  Gives r words =
      (r ≡ listed_by (length (entries s st)) (answer_by (too_few_words s st (length buffer) ∷ [])))
      × (words ≡ buffered_by buffer (listed_tracks s st) (answer_by (too_few_words s st (length buffer) ∷ [])))

  pub few_written : length buffer < state_number s st → Gives (Err TooFewWords) buffer
  unfolding answer_by too_few_words buffered_by
  few_written l = rw (entries_number, lt-ltb _ _ l) (refl, refl)

  pub done_written : state_number s st ≤ length buffer → Gives (Ok (state_number s st)) (sets buffer 0 (state_tracks s st))
  unfolding answer_by too_few_words buffered_by
  done_written l = rw (entries_number, le-ltb _ _ l, listed_tracks_lem) (refl, refl)
