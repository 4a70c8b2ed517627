-- What the code keeps of the blocks so far tells the verdict on them. Assumes nothing.
use Prim.Native.Nat.{ℕ, ◌+◌}
use mathlib.Core.Path.{◌≡◌, refl, sym, ◌∙◌}
use mathlib.Core.Bool.{Bool, true, false, not, ◌&&◌, ◌||◌}
use mathlib.Core.List.{List, [], ◌∷◌, ◌++◌, append_assoc, append-nil}
use native.Mathlib.Omega.{arith}
use borrow.Table.Steps.{cases}
use lib.Dec.{eqb}
use Rattle.std.proofs.Math.Bool.{or-false, or_assoc, and-true, and-false}
use Rattle.std.proofs.lemmas.Bool.{or_parts}
use Rattle.std.proofs.lemmas.List.Folds.{list_any-append}
use Rattle.std.proofs.lemmas.List.Sums.{sum_by_push}
use Rattle.frames.specs.declared.Block.{Block}
use Rattle.frames.specs.declared.progress.Progress.{Progress}
use Rattle.frames.specs.Blocks.{counted_length, total}
use Rattle.frames.specs.Conformance.{initialising_not_first, legal_length, legal_start, is_bad, some_bad, bad_block, no_block, bad_total, first_error, frame_verdict}
use Rattle.frames.proofs.BadLaws.{good_start}
use Rattle.frames.specs.steps.Progress.{no_progress, after_block, after_blocks, verdict_after}

-- the tests of blocks and one more
none_push : (bs : List Block) (b : Block) → no_block (bs ++ b ∷ []) ≡ false
unfolding no_block
none_push [] b = refl
none_push (a ∷ bs) b = refl

not_first_push : (bs : List Block) (b : Block) → initialising_not_first (bs ++ b ∷ []) ≡ (initialising_not_first bs || (b.initialising && not (no_block bs)))
unfolding initialising_not_first no_block
not_first_push [] b = sym (and-false b.initialising)
not_first_push (a ∷ bs) b = list_any-append (λ (x : Block). x.initialising) bs (b ∷ []) ∙ rw (or-false b.initialising, and-true b.initialising) refl

bad_push : (before bs : List Block) (b : Block) → some_bad before (bs ++ b ∷ []) ≡ (some_bad before bs || is_bad (before ++ bs) b)
unfolding some_bad
bad_push before [] b = rw (append-nil before) (or-false (is_bad before b))
bad_push before (a ∷ bs) b =
    rw (bad_push (before ++ a ∷ []) bs b, append_assoc before (a ∷ []) bs) (sym (or_assoc (is_bad before a) _ _))

total_push : (bs : List Block) (b : Block) → total (bs ++ b ∷ []) ≡ total bs + counted_length b
unfolding total
total_push bs b = sum_by_push counted_length bs b

-- what a progress tells of the blocks so far
record Told (bs : List Block) (p : Progress) : Type 0 where
  pub some : p.has_block ≡ not (no_block bs)
  pub not_first : p.initialising_not_first ≡ initialising_not_first bs
  pub bad : p.has_bad_block ≡ some_bad [] bs
  pub end : some_bad [] bs ≡ false → p.end ≡ total bs

none_told : Told [] no_progress
unfolding no_block initialising_not_first some_bad total
none_told = record { some = refl; not_first = refl; bad = refl; end = λ h. refl }

-- over plain values
de_morgan : (l e : Bool) → (not e || not l) ≡ not (l && e)
de_morgan true true = refl
de_morgan true false = refl
de_morgan false true = refl
de_morgan false false = refl

not_not : (b : Bool) → not (not b) ≡ b
not_not true = refl
not_not false = refl

-- behind a bad block the total is not asked
bad_first : (a x y : Bool) → first_error a true x ≡ first_error a true y
unfolding first_error
bad_first true x y = refl
bad_first false x y = refl

-- one block more
module _ (bs : List Block) (p : Progress) (t : Told bs p) (b : Block) where
  some_told : (after_block p b).has_block ≡ not (no_block (bs ++ b ∷ []))
  unfolding after_block
  some_told = rw (none_push bs b) (cases b.initialising (λ e. rw e refl) (λ e. rw e refl))

  not_first_told : (after_block p b).initialising_not_first ≡ initialising_not_first (bs ++ b ∷ [])
  unfolding after_block
  not_first_told = rw (not_first_push bs b) (cases b.initialising (λ e. rw (e, t.not_first, t.some) refl) (λ e. rw (e, t.not_first) (sym (or-false _))))

  bad_told : (after_block p b).has_bad_block ≡ some_bad [] (bs ++ b ∷ [])
  unfolding after_block is_bad legal_start
  bad_told = rw (bad_push [] bs b) (cases b.initialising
      (λ e. rw (e, t.bad) (sym (or-false _)))
      (λ e. cases (some_bad [] bs)
      (λ s. rw (e, t.bad, s) refl)
      (λ s. rw (e, t.bad, s, t.end s) (de_morgan (legal_length b.length) (eqb b.start (total bs))))))

  end_told : some_bad [] (bs ++ b ∷ []) ≡ false → (after_block p b).end ≡ total (bs ++ b ∷ [])
  unfolding after_block counted_length
  end_told h =
      let good = or_parts (some_bad [] bs) (is_bad bs b) (rw (bad_push [] bs b) at h) in
      rw (total_push bs b) (cases b.initialising
      (λ e. rw (e, t.end good.0) (omega arith))
      (λ e. rw (e, good_start bs b good.1 e) refl))

  more_told : Told (bs ++ b ∷ []) (after_block p b)
  more_told = record { some = some_told; not_first = not_first_told; bad = bad_told; end = end_told }

all_told : (before bs : List Block) (p : Progress) → Told before p → Told (before ++ bs) (after_blocks p bs)
all_told before [] p t = rw (append-nil before) t
all_told before (b ∷ bs) p t = rw (append_assoc before (b ∷ []) bs) at (all_told (before ++ b ∷ []) bs (after_block p b) (more_told before p t b))

-- and tells the verdict
verdict_told : (bs : List Block) (p : Progress) → Told bs p → (frame : ℕ) (unfinished : Bool) → verdict_after p frame unfinished ≡ frame_verdict frame bs unfinished
unfolding verdict_after frame_verdict bad_block bad_total
verdict_told bs p t frame unfinished = cases (some_bad [] bs)
    (λ s. rw (t.not_first, t.bad, s) (bad_first (initialising_not_first bs) _ _))
    (λ s. rw (t.not_first, t.bad, s, t.end s, t.some, not_not (no_block bs)) refl)

pub blocks_told : (bs : List Block) (frame : ℕ) (unfinished : Bool) → verdict_after (after_blocks no_progress bs) frame unfinished ≡ frame_verdict frame bs unfinished
blocks_told bs frame unfinished = verdict_told bs (after_blocks no_progress bs) (all_told [] bs no_progress none_told) frame unfinished
