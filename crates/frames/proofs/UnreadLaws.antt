-- An initialising block's start and length are not read. Assumes nothing.
use Prim.Native.Nat.{ℕ}
use mathlib.Core.Path.{◌≡◌, refl, sym, ◌∙◌}
use mathlib.Core.Bool.{Bool, not, true}
use mathlib.Core.List.{List, [], ◌∷◌, ◌++◌}
use lib.Dec.{eqb}
use Rattle.std.specs.List.{list_any}
use Rattle.std.proofs.lemmas.List.Sums.{sum_by_push}
use Rattle.frames.specs.declared.Block.{Block}
use Rattle.frames.specs.Blocks.{counted_length, total}
use Rattle.frames.specs.Conformance.{initialising_not_first, legal_start, is_bad, some_bad, bad_block, no_block, bad_total, first_error, frame_verdict}

-- blocks are bad or not by the sum of those before them
bad_by_total : (x y bs : List Block) → total x ≡ total y → some_bad x bs ≡ some_bad y bs
unfolding some_bad is_bad legal_start total
bad_by_total x y [] e = refl
bad_by_total x y (b ∷ bs) e =
    let more : total (x ++ b ∷ []) ≡ total (y ++ b ∷ []) = sum_by_push counted_length x b ∙ rw e (sym (sum_by_push counted_length y b)) in
    rw (bad_by_total (x ++ b ∷ []) (y ++ b ∷ []) bs more, e) refl

none_added : (a : Block) → a.initialising ≡ true → total (a ∷ []) ≡ total []
unfolding total counted_length
none_added a i = rw i refl

-- the verdict on blocks of which the first is initialising, by the others alone
pub behind_initialising : (frame : ℕ) (a : Block) (bs : List Block) (unfinished : Bool) → a.initialising ≡ true
    → frame_verdict frame (a ∷ bs) unfinished ≡ first_error (list_any (λ (x : Block). x.initialising) bs) (bad_block bs unfinished) (not (eqb (total bs) frame))
unfolding frame_verdict bad_block bad_total initialising_not_first no_block some_bad is_bad total counted_length
behind_initialising frame a bs unfinished i = rw (bad_by_total (a ∷ []) [] bs (none_added a i), i) refl
