-- Demand 3 for the listing that a player calls, from the listening guarantee for the list of one programme choice. Assumes nothing.
use Prim.Native.Nat.{ℕ, zero, suc, ◌+◌, ◌*◌, ◌<◌, ◌≤◌}
use mathlib.Core.Path.{◌≡◌, refl, sym, ap, ◌∙◌}
use mathlib.Core.List.{List, ◌++◌}
use mathlib.Core.Logic.{◌⊎◌, ⊎_elim}
use native.Mathlib.Omega.{arith}
use native.Mathlib.Nat.{div-add-mod, eq-or-lt_of_le, le_of_suc-le-suc}
use borrow.Author.Tests.{lt-leb, le-ltb}
use lib.ListN.{length, get_or, drop, length-append, get_or-append}
use lib.Seq.{sets, sets-eq, get_or-append-add, drop-append_seam}
use Rattle.std.specs.Prelude.{Ok}
use Rattle.sheet.specs.Words.{Sheet}
use Rattle.sheet.specs.Layout.{level, count}
use Rattle.sheet.specs.Fields.{programmes}
use Rattle.profile.specs.declared.Verdict.TheVariants.{Accepted}
use Rattle.profile.specs.Verdict.{verdict}
use Rattle.profile.specs.Counting.{concat_below}
use Rattle.listener.specs.Calls.{answer_by, not_open, no_programme}
use Rattle.listener.specs.Listing.{buffered_by}
use Rattle.listener.specs.StartListing.{start_tracks, start_number}
use Rattle.guarantee.proofs.ChosenLaws.{accepted_opens, start_promises}
use Rattle.host.specs.HostListing.{two_bytes, bytes_of, too_few_bytes, host_answer, answer_code, host_listed, host_buffered}
use Rattle.host.specs.HostGuarantee.{track_of, HostListening}
use Rattle.host.proofs.HostLaws.{track_number}

-- two bytes for each word
module _ (f : ℕ → ℕ) where
  abbrev pairs : ℕ → List ℕ
  pairs = concat_below (λ k. two_bytes (f k))

  pairs_length : (n : ℕ) → length (pairs n) ≡ 2 * n
  unfolding concat_below two_bytes
  pairs_length zero = refl
  pairs_length (suc n) = rw (length-append (pairs n) (two_bytes (f n))) (omega (arith, pairs_length n))

  -- the bytes of word i
  pair_at : (n i : ℕ) → i < n → track_of (pairs n) i ≡ f i
  unfolding concat_below two_bytes track_of
  pair_at zero i l = absurd (omega arith)
  pair_at (suc n) i l =
      ⊎_elim
      (λ e.
      let high : 2 * i ≡ length (pairs n) + 0 = omega (arith, e, pairs_length n) in
      let low : 2 * i + 1 ≡ length (pairs n) + 1 = omega (arith, e, pairs_length n) in
      rw (low, high, get_or-append-add (pairs n) (two_bytes (f n)) 0 0, get_or-append-add (pairs n) (two_bytes (f n)) 1 0) (div-add-mod (f n) 256 ∙ ap f (sym e)))
      (λ m.
      rw (get_or-append (pairs n) (two_bytes (f n)) 0 (2 * i) (omega (arith, pairs_length n)), get_or-append (pairs n) (two_bytes (f n)) 0 (2 * i + 1) (omega (arith, pairs_length n)))
      (pair_at n i m))
      (eq-or-lt_of_le (le_of_suc-le-suc l))

-- words written as bytes, in front of the bytes that stay
module _ (ws buffer : List ℕ) (room : 2 * length ws ≤ length buffer) where
  bytes_length : length (bytes_of ws) ≡ 2 * length ws
  unfolding bytes_of
  bytes_length = pairs_length (λ k. get_or ws k 0) (length ws)

  written : sets buffer 0 (bytes_of ws) ≡ bytes_of ws ++ drop (length (bytes_of ws)) buffer
  written = let z : 0 + length (bytes_of ws) ≡ length (bytes_of ws) = omega arith in sets-eq (bytes_of ws) buffer 0 (omega (arith, bytes_length)) ∙ rw z refl

  track_at_lem : (i : ℕ) → i < length ws → track_of (sets buffer 0 (bytes_of ws)) i ≡ get_or ws i 0
  unfolding track_of
  track_at_lem i l =
      rw (
        written,
        get_or-append (bytes_of ws) (drop (length (bytes_of ws)) buffer) 0 (2 * i) (omega (arith, bytes_length)),
        get_or-append (bytes_of ws) (drop (length (bytes_of ws)) buffer) 0 (2 * i + 1) (omega (arith, bytes_length)),
      )
      (unfold bytes_of in pair_at (λ k. get_or ws k 0) (length ws) i l)

  rest_stays : drop (2 * length ws) (sets buffer 0 (bytes_of ws)) ≡ drop (2 * length ws) buffer
  rest_stays = rw (← bytes_length, written) (drop-append_seam (bytes_of ws) (drop (length (bytes_of ws)) buffer))

module _ (s : Sheet) (langs : List ℕ) (accepted : verdict s langs ≡ Accepted) (at : (level s ≡ 1) ⊎ (level s ≡ 2)) (p : ℕ) (there : p < count s programmes) where
  done : (bytes : ℕ) → 2 * start_number s p ≤ bytes → host_answer s langs p bytes ≡ Ok tt
  unfolding host_answer answer_by not_open no_programme too_few_bytes
  done bytes l = rw (accepted_opens s langs accepted at, lt-leb (count s programmes) p there, le-ltb bytes (2 * start_number s p) l) refl

  buffered : (buffer : List ℕ) → 2 * start_number s p ≤ length buffer → host_buffered s langs p buffer ≡ sets buffer 0 (bytes_of (start_tracks s p))
  unfolding host_buffered buffered_by
  buffered buffer l = rw (done (length buffer) l) refl

  -- room for each track
  room : (buffer : List ℕ) → 2 * start_number s p ≤ length buffer → 2 * length (start_tracks s p) ≤ length buffer
  room buffer l = rw (track_number s p) l

  pub host_listening : HostListening s langs p
  unfolding host_listed answer_code start_number start_tracks
  host_listening =
      let promises = start_promises s langs accepted at p there in
      let exist = promises.tracks_exist in
      let n = track_number s p in
      record {
        number_given = λ bytes l. rw (done bytes l) refl;
        at_least_one = promises.at_least_one;
        at_most_lem = promises.at_most_lem;
        tracks_written = λ buffer l i m. rw (buffered buffer l) (track_at_lem (start_tracks s p) buffer (room buffer l) i (rw n m));
        tracks_exist = λ buffer l i m. rw (buffered buffer l, track_at_lem (start_tracks s p) buffer (room buffer l) i (rw n m)) (exist i (rw n m));
        later_stay = λ buffer l. rw (buffered buffer l, ← n) (rest_stays (start_tracks s p) buffer (room buffer l));
        one_sounds = promises.one_sounds;
        channels_once = promises.channels_once;
      }
