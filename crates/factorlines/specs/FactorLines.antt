-- The gains of factors as lines of text. Document 02, L3: "Some consoles export linear gain, in millionths. A converter gives the least tenth of a
-- dB that is not below it". The program `gaintenths` reads a factor a line and answers `silence`, the tenths as in `-600`, `refused 34`, or
-- `?` where a line is no number of 32 bits. Assumes nothing.
use Rattle.std.specs.Prelude.{ℕ, ◌≡◌, refl, cond, List, [], ◌++◌, map, Option, Some, None, Result, Ok, Err, eqb, length, get_or}
use Rattle.values.specs.declared.Gain.{Gain}
use Rattle.factors.specs.declared.FactorRefusal.{FactorRefusal}
use Rattle.factors.specs.declared.FactorRefusal.TheVariants.{FactorTooHigh}
use Rattle.factors.specs.Table.{entries}
use Rattle.factors.specs.Decibels.{tenth_at}
use Rattle.factors.specs.Conversion.{factor_too_high, least_tenth, factor_gain, conversion}
use Rattle.text.specs.Bytes.{ascii, join}
use Rattle.text.specs.Numbers.{is_digit, digits, value, is_number, wide_number_of}
use Rattle.text.specs.Decimal.{spelled, decimal, signed_decimal, gain_text}
use Rattle.text.specs.Lines.{without_return, said, is_blank, fields_from, fields, lines_from, lines}

-- the factor that a line says: its only field, if that is a number of 32 bits
unfoldable pub factor_of : List ℕ → Option ℕ
factor_of s = cond (eqb (length (fields s)) 1) (wide_number_of (get_or (fields s) 0 [])) None

-- as in `-600`, `silence` or `refused 34`
unfoldable pub conversion_text : Result Gain FactorRefusal → List ℕ
conversion_text (Ok g) = gain_text g
conversion_text (Err FactorTooHigh) = ascii "refused " ++ decimal factor_too_high

-- the answer for a factor, and for none
unfoldable pub factor_answer : Option ℕ → List ℕ
factor_answer None = ascii "?\n"
factor_answer (Some f) = conversion_text (conversion f) ++ ascii "\n"

-- the answer to a line
unfoldable pub factor_line : List ℕ → List ℕ
factor_line line = factor_answer (factor_of (said line))

-- what the program writes for an input
unfoldable pub factor_lines : List ℕ → List ℕ
factor_lines input = join (map factor_line (lines input))

-- an input with what is written for it, computed
pub factor_lines_lem :
    factor_lines (ascii "0\n1\n 1000000 \n1000001\r\n\n-1\n1 2\n011220184\n11220185\n4294967295\n4294967296\n1000")
    ≡ ascii "silence\n-600\n0\n1\n?\n?\n?\n210\nrefused 34\nrefused 34\n?\n-600\n"
unfolding factor_lines factor_line factor_answer conversion_text factor_of entries tenth_at least_tenth factor_gain conversion is_digit digits value is_number wide_number_of spelled decimal signed_decimal gain_text without_return said is_blank fields_from fields lines_from lines join
factor_lines_lem = refl
