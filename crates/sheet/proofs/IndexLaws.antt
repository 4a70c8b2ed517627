-- A record's index fits. Assumes nothing.
use Prim.Native.Nat.{ℕ, ◌*◌, ◌≤◌}
use native.Mathlib.Nat.{mul-le-mul_left, mul-le-mul_right, le_trans}

-- a product of bounded factors
pub product : (a b m n : ℕ) → a ≤ m → b ≤ n → a * b ≤ m * n
product a b m n p q = le_trans (mul-le-mul_left a q) (mul-le-mul_right n p)

-- a number of 32 bits times one of 8
pub records_fit : (k words : ℕ) → k ≤ 4294967295 → words ≤ 255 → k * words ≤ 4294967295 * 255
records_fit k words = product k words 4294967295 255
