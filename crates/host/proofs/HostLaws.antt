-- The listing on bytes and the one on words that it is made from. Assumes nothing.
use Prim.Native.Nat.{ℕ, ◌*◌, ◌<◌, ◌≤◌}
use mathlib.Core.Path.{◌≡◌, refl, ap}
use mathlib.Core.Bool.{Bool, true, false, cond}
use mathlib.Core.List.{List}
use native.Mathlib.Omega.{arith}
use native.Mathlib.Nat.{le_trans}
use borrow.Author.Tests.{lt-ltb, le-ltb}
use borrow.Table.Steps.{cases}
use lib.Dec.{eqb, ltb, leb}
use lib.IntN.{pos, ◌-ℤ◌}
use lib.ListN.{length, take, replicate, length-map}
use lib.Seq.{sets}
use mir.Syntax.{w32}
use mir.Val.{to_z, of_z}
use mir.Facts.{to_z-of_z}
use Rattle.std.specs.Prelude.{Result, Ok, Err}
use Rattle.sheet.specs.Words.{Sheet}
use Rattle.sheet.specs.Layout.{level, count}
use Rattle.sheet.specs.Fields.{programmes}
use Rattle.listener.specs.declared.Refusal.{Refusal}
use Rattle.listener.specs.declared.Refusal.TheVariants.{NotAccepted, Unsound, NoProgramme, NotIncluded, NotInGroup, NoRange, Outside, TooFewWords}
use Rattle.listener.specs.State.{refusal_number}
use Rattle.listener.specs.Programme.{started}
use Rattle.listener.specs.Calls.{Answer, opens, answer_by, not_open, no_programme}
use Rattle.listener.specs.Listing.{Entry, entries, listed_tracks, too_few_words, listed_by, buffered_by}
use Rattle.listener.proofs.TakenLaws.{told_refusal, told_number, told_length, told_tracks}
use Rattle.listener.specs.StartListing.{start_tracks, start_number, start_answer, start_listed, start_buffered}
use Rattle.guarantee.specs.Guarantee.{most_entries}
use Rattle.guarantee.proofs.MostLaws.{start_most}
use Rattle.host.specs.HostListing.{bytes_of, too_few_bytes, host_answer, negated, host_buffered}
use Rattle.host.specs.steps.Words.{host_words}

-- an answer is not both
done_refused : (r : Refusal) (x : Answer) → x ≡ Ok tt → x ≡ Err r → ⊥
done_refused r x e f = let y : ◌≡◌ {A = ℕ} 0 1 = cc in absurd (omega arith)

-- they are the most entries at level 1, and at level 2
words_most : (l : ℕ) → most_entries l ≤ host_words
unfolding most_entries
words_most l = either (eqb l 1) _ _ host_words (omega arith) (omega arith)
  where
    either : (b : Bool) (x y n : ℕ) → x ≤ n → y ≤ n → cond b x y ≤ n
    either true x y n l m = l
    either false x y n l m = m

module _ (s : Sheet) (langs : List ℕ) (p bytes : ℕ) where
  -- the answer that is left where the sheet opens and has the programme
  abbrev room : Answer
  room = cond (ltb bytes (2 * start_number s p)) (Err TooFewWords) (Ok tt)

  -- the words are always enough: the two answers differ in 32 only
  both : (P : Answer → Answer → Type 0) → ((r : Refusal) → P (Err r) (Err r))
      → (start_number s p ≤ host_words → P (Ok tt) room) → P (start_answer s langs p host_words) (host_answer s langs p bytes)
  unfolding start_answer host_answer answer_by not_open no_programme too_few_words too_few_bytes start_number
  both P refused done =
      cases (opens s langs)
      (λ e. cases (leb (count s programmes) p)
      (λ f. rw (e, f) (refused NoProgramme))
      (λ f. let most : length (entries s (started s p)) ≤ host_words = le_trans (start_most s langs p e f) (words_most (level s)) in rw (e, f, le-ltb host_words (length (entries s (started s p))) most) (done most)))
      (λ e. rw e (refused NotAccepted))

  pub refused_both : (r : Refusal) → start_answer s langs p host_words ≡ Err r → host_answer s langs p bytes ≡ Err r
  refused_both r = both (λ x y. x ≡ Err r → y ≡ Err r) (λ q e. e) (λ most e. absurd (done_refused r (Ok tt) refl e))

  pub done_most : start_answer s langs p host_words ≡ Ok tt → start_number s p ≤ host_words
  done_most = both (λ x y. x ≡ Ok tt → start_number s p ≤ host_words) (λ q e. absurd (done_refused q (Err q) e refl)) (λ most e. most)

  pub host_most : host_answer s langs p bytes ≡ Ok tt → start_number s p ≤ host_words
  host_most = both (λ x y. y ≡ Ok tt → start_number s p ≤ host_words) (λ q e. absurd (done_refused q (Err q) e refl)) (λ most e. most)

  pub done_room : start_answer s langs p host_words ≡ Ok tt → host_answer s langs p bytes ≡ cond (ltb bytes (2 * start_number s p)) (Err TooFewWords) (Ok tt)
  done_room = both (λ x y. x ≡ Ok tt → y ≡ room) (λ q e. absurd (done_refused q (Err q) e refl)) (λ most e. refl)

pub track_number : (s : Sheet) (p : ℕ) → length (start_tracks s p) ≡ start_number s p
unfolding start_number start_tracks listed_tracks
track_number s p = length-map (entries s (started s p)) (λ (e : Entry). e.track)

-- what a listing into the words that is done tells
pub record Told (s : Sheet) (langs : List ℕ) (p n : ℕ) (words : List ℕ) : Type 0 where
  pub answer : start_answer s langs p host_words ≡ Ok tt
  pub number : n ≡ start_number s p
  pub most : n ≤ host_words
  pub long : length words ≡ host_words
  pub written : take n words ≡ start_tracks s p

-- what the call gives, and the bytes afterwards
abbrev pub Gives : Sheet → List ℕ → ℕ → List ℕ → Result ℕ Refusal → List ℕ → Type 0
Gives s langs p buffer r bytes = (r ≡ listed_by (start_number s p) (host_answer s langs p (length buffer))) × (bytes ≡ host_buffered s langs p buffer)

module _ (s : Sheet) (langs : List ℕ) (p : ℕ) (r : Result ℕ Refusal) (words : List ℕ) (e : r ≡ start_listed s langs p host_words) (f : words ≡ start_buffered s langs p (replicate host_words 0)) where
  pub told : (k : ℕ) → r ≡ Ok k → Told s langs p k words
  unfolding start_listed start_buffered
  told k d =
      let t = told_number r (start_number s p) (start_answer s langs p host_words) e k d in
      let m : start_number s p ≤ host_words = done_most s langs p 0 t.0 in
      record {
        answer = t.0;
        number = t.1;
        most = omega (arith, t.1, m);
        long = told_length words (replicate host_words 0) (start_tracks s p) (start_answer s langs p host_words) f t.0;
        written = rw t.1 (told_tracks words (replicate host_words 0) (start_tracks s p) (start_answer s langs p host_words) f t.0 (start_number s p) (track_number s p) m);
      }

  -- a refusal is handed on
  pub told_refused : (q : Refusal) (buffer : List ℕ) → r ≡ Err q → Gives s langs p buffer (Err q) buffer
  unfolding start_listed host_buffered buffered_by
  told_refused q buffer d =
      let a = refused_both s langs p (length buffer) q (told_refusal r (start_number s p) (start_answer s langs p host_words) e q d) in rw a (refl, refl)

module _ {s : Sheet} {langs : List ℕ} {p n : ℕ} {words : List ℕ} (t : Told s langs p n words) (buffer : List ℕ) where
  pub few_bytes : length buffer < 2 * n → Gives s langs p buffer (Err TooFewWords) buffer
  unfolding host_buffered buffered_by
  few_bytes l =
      let h : ltb (length buffer) (2 * start_number s p) ≡ true = rw (← t.number) (lt-ltb _ _ l) in rw (done_room s langs p (length buffer) t.answer, h) (refl, refl)

  pub enough_bytes : 2 * n ≤ length buffer → Gives s langs p buffer (Ok n) (sets buffer 0 (bytes_of (take n words)))
  unfolding host_buffered buffered_by
  enough_bytes l =
      let h : ltb (length buffer) (2 * start_number s p) ≡ false = rw (← t.number) (le-ltb _ _ l) in
      rw (done_room s langs p (length buffer) t.answer, h) (ap Ok t.number, ap (λ (x : List ℕ). sets buffer 0 (bytes_of x)) t.written)

-- a refusal's number negated is handed on as it is
pub number_negated : (q : Refusal) → to_z w32 (of_z w32 (pos 0 -ℤ to_z w32 (of_z w32 (pos (refusal_number q))))) ≡ negated (refusal_number q)
unfolding negated
number_negated NotAccepted = refl
number_negated Unsound = refl
number_negated NoProgramme = refl
number_negated NotIncluded = refl
number_negated NotInGroup = refl
number_negated NoRange = refl
number_negated Outside = refl
number_negated TooFewWords = refl

-- so is a small number
pub number_kept : (n : ℕ) → n ≤ host_words → to_z w32 (of_z w32 (pos n)) ≡ pos n
number_kept n l = to_z-of_z {w = w32} (record { sfits = omega arith })
