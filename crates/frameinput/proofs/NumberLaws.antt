-- Bytes behind whole blocks. Assumes nothing.
use Prim.Native.Nat.{ℕ, suc, ◌/◌, ◌%◌}
use mathlib.Core.Path.{◌≡◌, refl, sym, ap, ◌∙◌}
use mathlib.Core.List.{List, [], ◌∷◌, ◌++◌}
use native.Mathlib.Omega.{arith}
use borrow.Author.Tests.{eqb-true, eq-eqb, ne_eqb}
use borrow.Table.Steps.{cases}
use lib.Dec.{eqb}
use lib.ListN.{length}
use Rattle.std.proofs.lemmas.Bool.{eqb-false}
use Rattle.frames.specs.Blocks.{block, blocks}
use Rattle.frameinput.specs.FrameInput.{number, numbers}

numbers_append : (xs ys : List ℕ) → length xs % 4 ≡ 0 → numbers (xs ++ ys) ≡ numbers xs ++ numbers ys
unfolding numbers
numbers_append [] ys h = refl
numbers_append (a ∷ []) ys h = absurd (omega (arith, h))
numbers_append (a ∷ b ∷ []) ys h = absurd (omega (arith, h))
numbers_append (a ∷ b ∷ c ∷ []) ys h = absurd (omega (arith, h))
numbers_append (a ∷ b ∷ c ∷ d ∷ xs) ys h = ap (λ ns. number a b c d ∷ ns) (numbers_append xs ys (omega (arith, h)))

pub numbers_number : (xs : List ℕ) → length (numbers xs) ≡ length xs / 4
unfolding numbers
numbers_number [] = refl
numbers_number (a ∷ []) = refl
numbers_number (a ∷ b ∷ []) = refl
numbers_number (a ∷ b ∷ c ∷ []) = refl
numbers_number (a ∷ b ∷ c ∷ d ∷ xs) = let e : suc (suc (suc (suc (length xs)))) / 4 ≡ suc (length xs / 4) = omega arith in rw e (ap suc (numbers_number xs))

blocks_append : (xs ys : List ℕ) → length xs % 3 ≡ 0 → blocks (xs ++ ys) ≡ blocks xs ++ blocks ys
unfolding blocks
blocks_append [] ys h = refl
blocks_append (a ∷ []) ys h = absurd (omega (arith, h))
blocks_append (a ∷ b ∷ []) ys h = absurd (omega (arith, h))
blocks_append (a ∷ b ∷ c ∷ xs) ys h = ap (λ bs. block a b c ∷ bs) (blocks_append xs ys (omega (arith, h)))

pub bytes_append : (xs ys : List ℕ) → length xs % 12 ≡ 0 → blocks (numbers (xs ++ ys)) ≡ blocks (numbers xs) ++ blocks (numbers ys)
bytes_append xs ys h =
    let e : length (numbers xs) % 3 ≡ 0 = rw (numbers_number xs) (omega (arith, h)) in
    ap blocks (numbers_append xs ys (omega (arith, h))) ∙ blocks_append (numbers xs) (numbers ys) e

-- no bytes are left over behind the last block where none are behind the last number, and no numbers
both_zero : (m n : ℕ) → (m ≡ 0 → n ≡ 0) → (n ≡ 0 → m ≡ 0) → eqb m 0 ≡ eqb n 0
both_zero m n f g = cases (eqb m 0) (λ e. e ∙ sym (eq-eqb n 0 (f (eqb-true m 0 e)))) (λ e. e ∙ sym (ne_eqb n 0 (λ z. eqb-false m 0 e (g z))))

pub none_left_over : (n : ℕ) → n % 4 ≡ 0 → eqb (n % 12) 0 ≡ eqb (n / 4 % 3) 0
none_left_over n w = both_zero (n % 12) (n / 4 % 3) (λ e. omega (arith, e)) (λ e. omega (arith, e, w))
