-- Decimal numbers, as the programs read them from a field of a line. Assumes nothing.
use Rattle.std.specs.Prelude.{ℕ, zero, suc, ◌+◌, ◌*◌, ◌-◌, Bool, true, cond, ◌&&◌, List, [], ◌∷◌, Option, Some, None, eqb, leb, ltb, ℤ, pos, negsuc, length, get_or, drop}
use Rattle.values.specs.declared.Gain.{Gain}
use Rattle.values.specs.declared.Gain.TheVariants as gain
use Rattle.text.specs.Bytes.{ascii, same}

-- "0" to "9"
unfoldable pub is_digit : ℕ → Bool
is_digit b = leb 48 b && leb b 57

-- digits only
unfoldable pub digits : List ℕ → Bool
digits [] = true
digits (b ∷ s) = is_digit b && digits s

-- the number that digits stand for, written behind the digits of n
unfoldable pub value : ℕ → List ℕ → ℕ
value n [] = n
value n (b ∷ s) = value (n * 10 + (b - 48)) s

-- a text is a number from 0 to `most`
unfoldable pub is_number : ℕ → List ℕ → Bool
is_number most s = ltb 0 (length s) && digits s && leb (value 0 s) most

-- the number that a text stands for, of 16 bits: nothing where it is none
unfoldable pub number_of : List ℕ → Option ℕ
number_of s = cond (is_number 65535 s) (Some (value 0 s)) None

-- of 32 bits
unfoldable pub wide_number_of : List ℕ → Option ℕ
wide_number_of s = cond (is_number 4294967295 s) (Some (value 0 s)) None

-- a number's negative: `negsuc n` is -(n + 1)
abbrev pub minus : ℕ → ℤ
minus zero = pos 0
minus (suc n) = negsuc n

-- the number as tenths: nothing above 32767
unfoldable pub positive : Option ℕ → Option ℤ
positive None = None
positive (Some n) = cond (leb n 32767) (Some (pos n)) None

-- the number behind a minus: nothing below -32768
unfoldable pub negative : Option ℕ → Option ℤ
negative None = None
negative (Some n) = cond (leb n 32768) (Some (minus n)) None

-- 45 is the minus
unfoldable pub tenths_of : List ℕ → Option ℤ
tenths_of s = cond (eqb (get_or s 0 0) 45) (negative (number_of (drop 1 s))) (positive (number_of s))

-- the gain of a number of tenths; -32768 is that number, which is no legal gain, and not silence
abbrev pub tenths_gain : Option ℤ → Option Gain
tenths_gain None = None
tenths_gain (Some z) = Some (gain.Tenths z)

-- `silence`, or a number of tenths
unfoldable pub gain_value_of : List ℕ → Option Gain
gain_value_of s = cond (same s (ascii "silence")) (Some gain.Silent) (tenths_gain (tenths_of s))
