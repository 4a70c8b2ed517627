-- The gain of a factor. Document 02, L3: "Some consoles export linear gain, in millionths. A converter gives the least tenth of a dB that is
-- not below it: 0 is silence, 1 to 1,000 give -600, 1,000,000 gives 0, 1,000,001 gives 1. [..] Errors: 34, the factor is above 11,220,184."
-- That the tenth is the least one in decibels too, and a legal gain, is said in Promises. Assumes nothing.
use Rattle.std.specs.Prelude.{ℕ, cond, eqb, leb, ℤ, Result, Ok, Err}
use Rattle.std.specs.List.{position_or_len}
use Rattle.values.specs.declared.Gain.{Gain}
use Rattle.values.specs.declared.Gain.TheVariants.{Silent, Tenths}
use Rattle.factors.specs.declared.FactorRefusal.{FactorRefusal}
use Rattle.factors.specs.declared.FactorRefusal.TheVariants.{FactorTooHigh}
use Rattle.factors.specs.Table.{entries}
use Rattle.factors.specs.Decibels.{tenth_at}

-- "11,220,184", the last entry
abbrev pub most_factor : ℕ
most_factor = 11220184

-- the number of the refusal: "34, the factor is above 11,220,184"
abbrev pub factor_too_high : ℕ
factor_too_high = 34

abbrev pub refusal_number : FactorRefusal → ℕ
refusal_number FactorTooHigh = factor_too_high

-- "the least tenth of a dB that is not below it": that of the first entry that is not below the factor
unfoldable pub least_tenth : ℕ → ℤ
least_tenth f = tenth_at (position_or_len (λ n. leb f n) entries)

-- "0 is silence"
unfoldable pub factor_gain : ℕ → Gain
factor_gain f = cond (eqb f 0) Silent (Tenths (least_tenth f))

-- the answer to a factor of f millionths
unfoldable pub conversion : ℕ → Result Gain FactorRefusal
conversion f = cond (leb f most_factor) (Ok (factor_gain f)) (Err FactorTooHigh)
