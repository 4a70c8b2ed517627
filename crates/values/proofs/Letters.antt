-- A code of three letters: "1024 times the first letter plus 32 times the second plus the third". Assumes nothing.
use mathlib.Core.Path.{◌≡◌}
use mathlib.Core.Bool.{true, ◌&&◌}
use Prim.Native.Nat.{ℕ, ◌+◌, ◌*◌, ◌/◌, ◌%◌, ◌≤◌}
use native.Mathlib.Omega.{arith}
use borrow.Author.Tests.{leb-true}
use lib.Dec.{leb}
use Rattle.values.specs.Language.{letter, three_letters}
use Rattle.values.proofs.Both.{both}

-- "a = 1 to z = 26"
letter_range : (n : ℕ) → letter n ≡ true → (1 ≤ n) × (n ≤ 26)
unfolding letter
letter_range n h = let b = both (leb 1 n) (leb n 26) h in (leb-true 1 n b.0, leb-true n 26 b.1)

-- any three letters make a code
pub letters_code : (a b c : ℕ) → letter a ≡ true → letter b ≡ true → letter c ≡ true → three_letters (1024 * a + 32 * b + c) ≡ true
unfolding three_letters
letters_code a b c f g h =
    let i = letter_range a f in
    let j = letter_range b g in
    let k = letter_range c h in
    let p : (1024 * a + 32 * b + c) / 1024 ≡ a = omega arith in
    let q : (1024 * a + 32 * b + c) / 32 % 32 ≡ b = omega arith in
    let r : (1024 * a + 32 * b + c) % 32 ≡ c = omega arith in
    simp (p, q, r, f, g, h)

-- every code is three letters
pub code_letters : (w : ℕ) → three_letters w ≡ true
    → (a : ℕ) × (b : ℕ) × (c : ℕ) × (letter a ≡ true) × (letter b ≡ true) × (letter c ≡ true) × (w ≡ 1024 * a + 32 * b + c)
unfolding three_letters
code_letters w h =
    let s = both (letter (w / 1024) && letter (w / 32 % 32)) (letter (w % 32)) h in
    let t = both (letter (w / 1024)) (letter (w / 32 % 32)) s.0 in
    (w / 1024, w / 32 % 32, w % 32, t.0, t.1, s.1, omega arith)
