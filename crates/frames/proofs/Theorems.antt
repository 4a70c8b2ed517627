-- The theorems that are promised of conformance (document 02, L5), each stated whole and proved by what it cites. That the code's answer is
-- `conformance` is in its contract (src/conformance.rt). Assumes nothing.
use Prim.Native.Nat.{ℕ, ◌≤◌}
use mathlib.Core.Path.{◌≡◌, refl}
use mathlib.Core.Bool.{true, false}
use mathlib.Core.List.{List, ◌∷◌, map}
use borrow.Author.Tests.{ne_eqb}
use lib.ListN.{length}
use Rattle.std.specs.Prelude.{◌↔◌, Err}
use Rattle.std.proofs.lemmas.Bool.{or_parts}
use Rattle.frames.specs.declared.FrameError.TheVariants.{InitialisingNotFirst, BadBlock, BadTotal}
use Rattle.frames.specs.Blocks.{block, blocks, is_unfinished}
use Rattle.frames.specs.Conformance.{initialising_not_first, bad_block, bad_total, accepted, frame_verdict, conformance}
use Rattle.frames.specs.Cases.{Case, cases, cases_hold}
use Rattle.frames.specs.Promises.{Conforms, most_blocks}
use Rattle.frames.proofs.VerdictLaws.{none_holds, first_holds, second_holds, third_holds}
use Rattle.frames.proofs.BoundLaws.{block_bound}
use Rattle.frames.proofs.ConformsLaws.{conforms_lem, conforming}
use Rattle.frames.proofs.UnreadLaws.{behind_initialising}

module _ (frame : ℕ) (ns : List ℕ) where
  -- a list is accepted exactly when none of the three errors holds,
  pub accepted_exactly_without_errors : conformance frame ns ≡ accepted
      ↔ ((initialising_not_first (blocks ns) ≡ false) × (bad_block (blocks ns) (is_unfinished ns) ≡ false) × (bad_total frame (blocks ns) ≡ false))
  unfolding conformance frame_verdict
  accepted_exactly_without_errors = none_holds _ _ _

  -- "in this order": refused by 35 exactly where 35 holds,
  pub refused_by_35 : conformance frame ns ≡ Err InitialisingNotFirst ↔ (initialising_not_first (blocks ns) ≡ true)
  unfolding conformance frame_verdict
  refused_by_35 = first_holds _ _ _

  -- by 36 exactly where 35 does not hold and 36 does,
  pub refused_by_36 : conformance frame ns ≡ Err BadBlock
      ↔ ((initialising_not_first (blocks ns) ≡ false) × (bad_block (blocks ns) (is_unfinished ns) ≡ true))
  unfolding conformance frame_verdict
  refused_by_36 = second_holds _ _ _

  -- and by 37 exactly where neither 35 nor 36 holds and 37 does
  pub refused_by_37 : conformance frame ns ≡ Err BadTotal
      ↔ ((initialising_not_first (blocks ns) ≡ false) × (bad_block (blocks ns) (is_unfinished ns) ≡ false) × (bad_total frame (blocks ns) ≡ true))
  unfolding conformance frame_verdict
  refused_by_37 = third_holds _ _ _

  -- accepted lists keep each of document 02's sentences, and those that do are accepted
  pub accepted_exactly_where_all_is_kept : conformance frame ns ≡ accepted ↔ Conforms frame ns
  accepted_exactly_where_all_is_kept =
      let none = accepted_exactly_without_errors in (λ e. conforms_lem frame ns (none.0 e), λ c. none.1 (conforming frame ns c))

  -- "For every accepted list, [..] the number of blocks is at most the frame length divided by 5,000, rounded down, plus 1 if it has an
  -- initialising block, plus the number of zero lengths."
  pub accepted_lists_keep_the_bound : conformance frame ns ≡ accepted → length (blocks ns) ≤ most_blocks frame (blocks ns)
  unfolding bad_block
  accepted_lists_keep_the_bound e =
      let none = accepted_exactly_without_errors.0 e in
      rw (conforms_lem frame ns none).lengths_add_up at (block_bound (blocks ns) none.0 (or_parts _ _ none.1).0)

-- An initialising block's "start and length are not read", and "any other" third number than 0 makes it one. One that is not first is 35,
-- whatever stands there.
pub a_first_initialising_block_is_not_read : (frame start len third start' len' third' : ℕ) (ns : List ℕ) → (third ≡ 0 → ⊥) → (third' ≡ 0 → ⊥)
    → conformance frame (start ∷ len ∷ third ∷ ns) ≡ conformance frame (start' ∷ len' ∷ third' ∷ ns)
unfolding conformance blocks is_unfinished
a_first_initialising_block_is_not_read frame s l t s' l' t' ns n n' =
    rw (behind_initialising frame (block s l t) (blocks ns) _ (rw (ne_eqb t 0 n) refl), behind_initialising frame (block s' l' t') (blocks ns) _ (rw (ne_eqb t' 0 n') refl)) refl

-- a dozen cases and more, computed
pub cases_have_their_verdicts : map (λ (c : Case). conformance c.frame c.numbers) cases ≡ map (λ (c : Case). c.verdict) cases
cases_have_their_verdicts = cases_hold
