-- The test of two texts, and the length of texts one behind the other. Assumes nothing.
use Prim.Native.Nat.{ℕ, zero, suc, ◌+◌, ◌<◌}
use native.Mathlib.Omega.{arith}
use mathlib.Core.Path.{◌≡◌, refl, ap, sym}
use mathlib.Core.Bool.{Bool, ◌&&◌}
use mathlib.Core.List.{List, [], ◌∷◌, ◌++◌, map, append_assoc, append-nil}
use lib.ListN.{length, take, get_or, length-append}
use lib.Dec.{eqb}
use lib.Pointwise.{pointwise}
use Rattle.text.specs.Bytes.{same, join}

-- what `==` says of two texts
pub compared : (s t : List ℕ) → pointwise eqb s t ≡ same s t
unfolding same
compared [] [] = refl
compared [] (b ∷ t) = refl
compared (a ∷ s) [] = refl
compared (a ∷ s) (b ∷ t) = ap (λ (r : Bool). eqb a b && r) (compared s t)

-- texts one behind the other
pub join_length : (s : List ℕ) (ss : List (List ℕ)) → length (join (s ∷ ss)) ≡ length s + length (join ss)
unfolding join
join_length s ss = length-append s (join ss)

pub none_length : length (join []) ≡ 0
unfolding join
none_length = refl

-- the text of one element more
pub joined_more : {X : Type 0} (f : X → List ℕ) (xs : List X) (i : ℕ) (d : X) → i < length xs → join (map f (take (i + 1) xs)) ≡ join (map f (take i xs)) ++ f (get_or xs i d)
unfolding join
joined_more f [] i d h = absurd (omega arith)
joined_more f (x ∷ xs) zero d h = append-nil (f x)
joined_more f (x ∷ xs) (suc i) d h =
    let e : suc i + 1 ≡ suc (i + 1) = omega arith in
    rw (e, joined_more f xs i d (omega arith)) (sym (append_assoc (f x) (join (map f (take i xs))) (f (get_or xs i d))))
