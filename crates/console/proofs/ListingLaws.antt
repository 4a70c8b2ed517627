-- The words of a listing that is done. Assumes nothing.
use Prim.Native.Nat.{ℕ, ◌≤◌}
use mathlib.Core.Path.{◌≡◌, refl}
use mathlib.Core.List.{List}
use borrow.Author.Tests.{ltb-false}
use lib.ListN.{length, take, replicate, length-map}
use Rattle.std.specs.Prelude.{Result, Ok, Err}
use Rattle.sheet.specs.Words.{Sheet}
use Rattle.listener.specs.declared.State.{State}
use Rattle.listener.specs.declared.Refusal.{Refusal}
use Rattle.listener.specs.Calls.{not_open, not_sound}
use Rattle.listener.specs.Listing.{Entry, entries, listed_tracks, enough_words, too_few_words, listing_answer, listed, buffered}
use Rattle.listener.proofs.TakenLaws.{told_refusal, told_number, told_length, told_tracks}
use Rattle.guarantee.proofs.RunLaws.{done_ground}
use Rattle.console.specs.Answers.{tracks_line, listing_line}
use Rattle.console.proofs.AnswerLaws.{tracks_fit}

-- a listing that is done had enough words
done_room : (s : Sheet) (langs : List ℕ) (st : State) (words : ℕ) → listing_answer s langs st words ≡ Ok tt → length (entries s st) ≤ words
unfolding listing_answer too_few_words
done_room s langs st words d =
    let sound = (done_ground (not_open s langs) _ d).1 in
    let room = (done_ground (not_sound s st) _ sound).1 in
    ltb-false words (length (entries s st)) (done_ground (too_few_words s st words) _ room).0

tracks_number : (s : Sheet) (st : State) → length (listed_tracks s st) ≡ length (entries s st)
unfolding listed_tracks
tracks_number s st = length-map (entries s st) (λ (e : Entry). e.track)

tracks_room : (s : Sheet) (langs : List ℕ) (st : State) → listing_answer s langs st enough_words ≡ Ok tt → length (listed_tracks s st) ≤ enough_words
tracks_room s langs st d = rw (tracks_number s st) (done_room s langs st enough_words d)

module _ (s : Sheet) (langs : List ℕ) (st : State) (r : Result ℕ Refusal) (words : List ℕ) (e : r ≡ listed s langs st enough_words) (f : words ≡ buffered s langs st (replicate enough_words 0)) where
  -- the answer of a listing, whether it is refused or done
  pub listing_answer_lem : ((q : Refusal) → r ≡ Err q → listing_answer s langs st enough_words ≡ Err q) × ((k : ℕ) → r ≡ Ok k → listing_answer s langs st enough_words ≡ Ok tt)
  unfolding listed
  listing_answer_lem =
      (told_refusal r (length (entries s st)) (listing_answer s langs st enough_words) e, λ k g. (told_number r (length (entries s st)) (listing_answer s langs st enough_words) e k g).0)

  pub refused_line : (q : Refusal) → r ≡ Err q → listing_line s langs st ≡ tracks_line (listed_tracks s st) (Err q)
  unfolding listed listing_line
  refused_line q g = rw (told_refusal r (length (entries s st)) (listing_answer s langs st enough_words) e q g) refl

  module _ (k : ℕ) (g : r ≡ Ok k) where
    done : (listing_answer s langs st enough_words ≡ Ok tt) × (k ≡ length (entries s st))
    unfolding listed
    done = told_number r (length (entries s st)) (listing_answer s langs st enough_words) e k g

    pub done_line : listing_line s langs st ≡ tracks_line (take k words) (Ok tt)
    unfolding listing_line buffered
    done_line =
        rw (done.0, done.1, told_tracks words (replicate enough_words 0) (listed_tracks s st) (listing_answer s langs st enough_words) f done.0 (length (entries s st)) (tracks_number s st) (done_room s langs st enough_words done.0))
        refl

    pub listing_room : k ≤ length words
    unfolding buffered
    listing_room =
        rw (done.1, told_length words (replicate enough_words 0) (listed_tracks s st) (listing_answer s langs st enough_words) f done.0) (done_room s langs st enough_words done.0)

-- the line of a listing
pub listing_fits : (s : Sheet) (langs : List ℕ) (st : State) → length (listing_line s langs st) ≤ 600
unfolding listing_line
listing_fits s langs st = tracks_fit (listed_tracks s st) (listing_answer s langs st enough_words) (tracks_room s langs st)
