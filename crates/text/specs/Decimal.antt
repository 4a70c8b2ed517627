-- Numbers and gains as the programs write them: in decimal, without a leading zero, negative ones with a minus. Assumes nothing.
use Rattle.std.specs.Prelude.{ℕ, zero, suc, ◌+◌, ◌/◌, ◌%◌, cond, List, [], ◌∷◌, ◌++◌, ltb, ℤ, pos, negsuc}
use Rattle.values.specs.declared.Gain.{Gain}
use Rattle.values.specs.declared.Gain.TheVariants.{Silent, Tenths}
use Rattle.text.specs.Bytes.{ascii}

-- a digit's byte: 48 is "0"
abbrev pub digit_byte : ℕ → List ℕ
digit_byte d = (48 + d) ∷ []

-- a number of at most k + 1 digits
unfoldable pub spelled : ℕ → ℕ → List ℕ
spelled zero n = digit_byte (n % 10)
spelled (suc k) n = cond (ltb n 10) (digit_byte n) (spelled k (n / 10) ++ digit_byte (n % 10))

-- a number of 64 bits: at most 20 digits
unfoldable pub decimal : ℕ → List ℕ
decimal n = spelled 19 n

-- `negsuc n` is -(n + 1)
unfoldable pub signed_decimal : ℤ → List ℕ
signed_decimal (pos n) = decimal n
signed_decimal (negsuc n) = ascii "-" ++ decimal (suc n)

-- `silence`, or the number of tenths
unfoldable pub gain_text : Gain → List ℕ
gain_text Silent = ascii "silence"
gain_text (Tenths z) = signed_decimal z
