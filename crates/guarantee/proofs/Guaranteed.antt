-- The listening guarantee: for every sheet accepted at level 1 or 2 and every list of calls. Its statement is specs/Guarantee.antt.
-- Its hypotheses are acceptance and the level, and nothing else. Assumes nothing.
use Prim.Native.Nat.{ℕ, ◌≤◌}
use mathlib.Core.Path.{◌≡◌, subst, ◌∙◌}
use mathlib.Core.Bool.{true}
use mathlib.Core.List.{List, [], ◌∷◌}
use mathlib.Core.Logic.{◌⊎◌, ⊎_elim}
use native.Mathlib.Omega.{arith}
use native.Mathlib.Nat.{le_trans}
use lib.ListN.{length}
use lib.Seq.{sets}
use borrow.Author.Tests.{le-ltb}
use Rattle.std.specs.Prelude.{Ok}
use Rattle.sheet.specs.Words.{Sheet}
use Rattle.sheet.specs.Layout.{level, count}
use Rattle.sheet.specs.Fields.{objects}
use Rattle.profile.specs.declared.Verdict.TheVariants.{Accepted}
use Rattle.profile.specs.Verdict.{verdict}
use Rattle.profile.specs.AcceptedSheet.{AcceptedSheet}
use Rattle.profile.proofs.AcceptedLaws.{accepted_sheet}
use Rattle.listener.specs.declared.State.{State}
use Rattle.listener.specs.declared.Refusal.TheVariants.{NotAccepted, Unsound}
use Rattle.listener.specs.State.{state_objects}
use Rattle.listener.specs.Sound.{sound}
use Rattle.listener.specs.Calls.{opens, answer_by, reply_by, not_open, opened}
use Rattle.listener.specs.Listing.{entries, listed_tracks, too_few_words, listing_answer, listed, buffered_by, buffered}
use Rattle.guarantee.specs.Run.{Call, after}
use Rattle.guarantee.specs.Guarantee.{Promises, Listening}
use Rattle.guarantee.proofs.OpenLaws.{opens_accepted, few_objects, most_counted}
use Rattle.guarantee.proofs.RunLaws.{passes, never, never_refused, after_kept}
use Rattle.guarantee.proofs.ValueLaws as values
use Rattle.guarantee.proofs.ListingLaws.{listing_most, listing_least}
use Rattle.guarantee.proofs.EntryLaws.{tracks_exist, channels_once, one_sounds}

module _ (s : Sheet) (langs : List ℕ) (accepted : verdict s langs ≡ Accepted) (at : (level s ≡ 1) ⊎ (level s ≡ 2)) where
  can_open : opens s langs ≡ true
  can_open = opens_accepted s langs accepted (λ e. ⊎_elim (λ q. omega arith) (λ q. omega arith) at)

  a : AcceptedSheet s
  a = accepted_sheet s langs accepted

  few : count s objects ≤ state_objects
  few = few_objects s langs can_open

  enough : (st : State) → sound s st ≡ true → (words : ℕ) → length (entries s st) ≤ words → listing_answer s langs st words ≡ Ok tt
  unfolding listing_answer too_few_words answer_by
  enough st h words l = passes s langs a few can_open st (too_few_words s st words ∷ []) h ∙ rw (le-ltb words (length (entries s st)) l)

  done_listing : (st : State) → sound s st ≡ true → (words : ℕ) → length (entries s st) ≤ words → listed s langs st words ≡ Ok (length (entries s st))
  unfolding listed
  done_listing st h words l = rw (enough st h words l)

  done_writing : (st : State) → sound s st ≡ true → (buffer : List ℕ) → length (entries s st) ≤ length buffer → buffered s langs st buffer ≡ sets buffer 0 (listed_tracks s st)
  unfolding buffered buffered_by
  done_writing st h buffer l = rw (enough st h (length buffer) l)

  done_opening : (opened s langs).answer ≡ Ok tt
  unfolding opened answer_by not_open reply_by
  done_opening = rw can_open

  -- of every sound state
  promised : (st : State) → sound s st ≡ true → Promises s langs st.programme st
  unfolding listing_answer too_few_words
  promised st h =
      record {
        listing_done = done_listing st h;
        listing_written = done_writing st h;
        at_least_one = listing_least s a few st h;
        at_most_lem = le_trans (listing_most s a few st h) (most_counted s langs can_open);
        tracks_exist = tracks_exist s a few st h;
        one_sounds = one_sounds s a few st h;
        channels_once = channels_once s a few st h;
        gain_legal = λ o l. values.gain_legal s a few st h o l;
        offset_legal = λ o l. values.offset_legal s a few st h o l;
        gain_in_range_lem = λ o l. values.gain_in_range_lem s a few st h o l;
        offset_in_range_lem = λ o l. values.offset_in_range_lem s a few st h o l;
        gain_at_start = λ o l. values.gain_at_start s a few st h o l;
        offset_at_start = λ o l. values.offset_at_start s a few st h o l;
        never_25 = λ c. never_refused s langs a few can_open st h c NotAccepted (omega arith);
        never_26 = λ c. never_refused s langs a few can_open st h c Unsound (omega arith);
        listing_never_25 = λ words. never s langs a few can_open st (too_few_words s st words ∷ []) h (omega arith, tt) NotAccepted (omega arith);
        listing_never_26 = λ words. never s langs a few can_open st (too_few_words s st words ∷ []) h (omega arith, tt) Unsound (omega arith);
      }

  -- demand 3
  pub listening : (calls : List Call) → Listening s langs calls
  listening calls =
      let k = after_kept s langs a few can_open calls in
      record { opening_done = done_opening; programme = k.at; promises = subst (λ (p : ℕ). Promises s langs p (after s langs calls)) k.at (promised (after s langs calls) k.good) }
