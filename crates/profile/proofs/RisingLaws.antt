-- A list of languages that rises: each word is above all before it, and so it has at most 65,536 words. Assumes nothing.
use Prim.Native.Nat.{ℕ, zero, suc, ◌+◌, ◌≤◌, ◌<◌}
use mathlib.Core.Path.{◌≡◌, refl}
use mathlib.Core.Bool.{true, false}
use mathlib.Core.List.{List}
use mathlib.Core.Logic.{⊎_elim}
use native.Mathlib.Omega.{arith}
use native.Mathlib.Nat.{eq-or-lt_of_le, le_of_suc-le-suc}
use borrow.Author.Tests.{leb-false, ltb-true, ltb-false, not-true}
use lib.Dec.{leb, ltb}
use lib.ListN.{length, get_or}
use Rattle.sheet.specs.Words.{words}
use Rattle.sheet.proofs.WordLaws.{how_many_lem, words_fit}
use Rattle.profile.specs.Languages.{is_rising}
use Rattle.profile.proofs.CountingLaws.{any_none}

-- each word is above the one before it
rising_next : (langs : List ℕ) → is_rising langs ≡ true → (i : ℕ) → suc i < length langs → get_or langs i 0 < get_or langs (suc i) 0
unfolding is_rising
rising_next langs r i l =
    let next : i + 1 ≡ suc i = omega arith in
    rw next at (leb-false _ _ (any_none (λ j. leb (get_or langs (j + 1) 0) (get_or langs j 0)) _ (not-true _ r) i (omega arith)))

-- and above all before it
pub rising_later : (langs : List ℕ) → is_rising langs ≡ true → (i j : ℕ) → i < j → j < length langs → get_or langs i 0 < get_or langs j 0
rising_later langs r i zero l m = absurd (omega arith)
rising_later langs r i (suc j) l m =
    ⊎_elim (λ q. let z : i ≡ j = q in rw z (rising_next langs r j m)) (λ h. omega (arith, rising_later langs r i j h (omega arith), rising_next langs r j m))
    (eq-or-lt_of_le (le_of_suc-le-suc l))

-- so the word at a place is at least that place's number
pub at_least : (langs : List ℕ) → is_rising langs ≡ true → (i : ℕ) → i < length langs → i ≤ get_or langs i 0
at_least langs r zero l = omega arith
at_least langs r (suc i) l = omega (arith, at_least langs r i (omega arith), rising_next langs r i l)

-- and words of 16 bits are at most 65,536
rising_most : (langs : List ℕ) → ((i : ℕ) → get_or langs i 0 < 65536) → is_rising langs ≡ true → length langs ≤ 65536
rising_most langs fit r =
    (elim (ltb 65536 (length langs)) as (λ b. ltb 65536 (length langs) ≡ b → length langs ≤ 65536) [
      | true ↦ λ e. absurd (omega (arith, at_least langs r 65536 (ltb-true _ _ e), fit 65536))
      | false ↦ λ e. ltb-false _ _ e
    ]) refl

-- so 131,074 bytes or more are no list that rises
pub too_many : (bytes : List ℕ) → ((i : ℕ) → get_or bytes i 0 < 256) → 131074 ≤ length bytes → is_rising (words bytes) ≡ false
too_many bytes h l =
    (elim (is_rising (words bytes)) as (λ b. is_rising (words bytes) ≡ b → b ≡ false) [
      | true ↦ λ e. absurd (omega (arith, rising_most (words bytes) (words_fit bytes h) e, how_many_lem bytes))
      | false ↦ λ e. refl
    ]) refl
