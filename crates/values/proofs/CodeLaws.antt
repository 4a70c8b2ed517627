-- The table of codes has for each word what the definition says of it, by one test of all its entries. Assumes nothing.
use Prim.Native.Nat.{ℕ, zero, suc, ◌+◌, ◌/◌, ◌<◌, ◌≤◌}
use mathlib.Core.Path.{◌≡◌, refl, ◌∙◌}
use mathlib.Core.Bool.{Bool, true, false, ◌&&◌}
use mathlib.Core.List.{List, [], ◌∷◌}
use native.Mathlib.Omega.{arith}
use borrow.Author.Tests.{le-leb, lt-leb, ltb-true, ltb-false}
use lib.Dec.{ltb}
use lib.ListN.{length, get_or}
use Rattle.std.proofs.Math.Bool.{beq}
use Rattle.std.proofs.lemmas.List.{get_or_past}
use Rattle.std.specs.Cmp.{booleans_Decides}
use Rattle.values.specs.Codes.{is_code, table}
use Rattle.values.specs.Language.{letter, three_letters}
use Rattle.values.proofs.Both.{both}

-- the words from w on are in the list, in its order, as the definition says of them
all_told : ℕ → List Bool → Bool
all_told w [] = true
all_told w (b ∷ bs) = beq b (three_letters w) && all_told (suc w) bs

-- the test of all entries: it walks along the list, since a look at each by its index would take its length squared
table_told : all_told 0 table ≡ true
unfolding all_told three_letters letter
table_told = refl

table_long : length table ≡ 65536
table_long = refl

told_at : (w : ℕ) (bs : List Bool) → all_told w bs ≡ true → (i : ℕ) → i < length bs → get_or bs i false ≡ three_letters (w + i)
unfolding all_told
told_at w [] h i l = absurd (omega arith)
told_at w (b ∷ bs) h zero l =
    let e : w + 0 ≡ w = omega arith in
    rw e ((booleans_Decides b (three_letters w)).0 (both (beq b (three_letters w)) (all_told (suc w) bs) h).0)
told_at w (b ∷ bs) h (suc i) l =
    let e : w + suc i ≡ suc w + i = omega arith in
    rw e (told_at (suc w) bs (both (beq b (three_letters w)) (all_told (suc w) bs) h).1 i (omega arith))

-- a first letter past z is none
no_letter : (n : ℕ) → 26 < n → letter n ≡ false
unfolding letter
no_letter n l = simp (le-leb 1 n (omega arith), lt-leb n 26 l)

-- and a word past the table has one
pub no_code : (w : ℕ) → 65536 ≤ w → false ≡ three_letters w
unfolding three_letters
no_code w l = simp (no_letter (w / 1024) (omega arith))

-- of every word the table tells what the definition says
pub same_codes : (w : ℕ) → is_code w ≡ three_letters w
unfolding is_code
same_codes w =
    (elim (ltb w 65536) as (λ b. ltb w 65536 ≡ b → get_or table w false ≡ three_letters w) [
      | true ↦ λ e. let z : 0 + w ≡ w = omega arith in rw z at (told_at 0 table table_told w (omega (arith, table_long, ltb-true _ _ e)))
      | false ↦ λ e. let far : 65536 ≤ w = ltb-false _ _ e in get_or_past table w false (omega (arith, table_long, far)) ∙ no_code w far
    ]) refl
