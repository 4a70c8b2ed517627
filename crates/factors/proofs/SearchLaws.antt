-- The place of a list that rises before which all numbers are below f is that of the first that is not. Assumes nothing.
use Prim.Native.Nat.{ℕ, ◌≤◌}
use mathlib.Core.Path.{◌≡◌, sym}
use mathlib.Core.Bool.{true, false}
use mathlib.Core.List.{List}
use native.Mathlib.Omega.{arith}
use lib.Dec.{ltb, leb}
use lib.ListN.{length, get_or}
use borrow.Author.Tests.{ltb-true, ltb-false, le-leb, lt-leb}
use Rattle.std.specs.List.{position_or_len}
use Rattle.std.specs.List.Sorted.{IsPartitionPoint}
use Rattle.std.proofs.lemmas.List.Sums.{position_or_len_is}

pub first_of_point : (f i : ℕ) (ns : List ℕ) → i ≤ length ns → IsPartitionPoint (λ n. ltb n f ≡ true) (λ n. ltb n f ≡ false) ns i
    → i ≡ position_or_len (λ n. leb f n) ns
first_of_point f i ns l p =
    sym (position_or_len_is (λ n. leb f n) ns i 0 l
    (λ k m. lt-leb f (get_or ns k 0) (ltb-true _ _ (p.0 k 0 (omega arith) m)))
    (λ m. le-leb f (get_or ns i 0) (ltb-false _ _ (p.1 i 0 (omega arith) m))))
