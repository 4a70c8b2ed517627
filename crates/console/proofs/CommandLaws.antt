-- A command by the number of its fields. Assumes nothing.
use Prim.Native.Nat.{ℕ}
use mathlib.Core.Path.{◌≡◌, refl}
use mathlib.Core.List.{List, [], ◌∷◌}
use native.Mathlib.Omega.{arith}
use lib.ListN.{length, get_or}
use Rattle.std.specs.Prelude.{None}
use Rattle.text.specs.Numbers.{number_of}
use Rattle.console.specs.Commands.{alone, with_number, with_value, command_by}

pub one_field : (fs : List (List ℕ)) → length fs ≡ 1 → command_by fs ≡ alone (get_or fs 0 [])
unfolding command_by
one_field [] e = absurd (omega arith)
one_field (name ∷ []) e = refl
one_field (name ∷ n ∷ fs) e = absurd (omega arith)

pub two_fields : (fs : List (List ℕ)) → length fs ≡ 2 → command_by fs ≡ with_number (get_or fs 0 []) (number_of (get_or fs 1 []))
unfolding command_by
two_fields [] e = absurd (omega arith)
two_fields (name ∷ []) e = absurd (omega arith)
two_fields (name ∷ n ∷ []) e = refl
two_fields (name ∷ n ∷ v ∷ fs) e = absurd (omega arith)

pub three_fields : (fs : List (List ℕ)) → length fs ≡ 3 → command_by fs ≡ with_value (get_or fs 0 []) (number_of (get_or fs 1 [])) (get_or fs 2 [])
unfolding command_by
three_fields [] e = absurd (omega arith)
three_fields (name ∷ []) e = absurd (omega arith)
three_fields (name ∷ n ∷ []) e = absurd (omega arith)
three_fields (name ∷ n ∷ v ∷ []) e = refl
three_fields (name ∷ n ∷ v ∷ w ∷ fs) e = absurd (omega arith)

pub other_fields : (fs : List (List ℕ)) → (length fs ≡ 1 → ⊥) → (length fs ≡ 2 → ⊥) → (length fs ≡ 3 → ⊥) → command_by fs ≡ None
unfolding command_by
other_fields [] a b c = refl
other_fields (name ∷ []) a b c = absurd (a refl)
other_fields (name ∷ n ∷ []) a b c = absurd (b refl)
other_fields (name ∷ n ∷ v ∷ []) a b c = absurd (c refl)
other_fields (name ∷ n ∷ v ∷ w ∷ fs) a b c = refl
