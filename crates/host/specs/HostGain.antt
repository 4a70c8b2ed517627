-- The gain of a factor as a number. Document 02, L3: a converter gives "the least tenth of a dB that is not below" a factor in millionths, "Errors:
-- 34, the factor is above 11,220,184". As in a sheet, silence is -32768; and as in the check's answer, a refusal is 1,000,000 times its
-- number. Assumes nothing.
use Rattle.std.specs.Prelude.{ℕ, ◌*◌, ◌≡◌, refl, [], ◌∷◌, map, ℤ, pos, negsuc, Result, Ok, Err}
use Rattle.values.specs.declared.Gain.{Gain}
use Rattle.values.specs.declared.Gain.TheVariants.{Silent, Tenths}
use Rattle.factors.specs.declared.FactorRefusal.{FactorRefusal}
use Rattle.factors.specs.declared.FactorRefusal.TheVariants.{FactorTooHigh}
use Rattle.factors.specs.Table.{entries}
use Rattle.factors.specs.Decibels.{tenth_at}
use Rattle.factors.specs.Conversion.{factor_too_high, least_tenth, factor_gain, conversion}

-- -32768 for silence, the tenths, 34,000,000 for refusal 34
unfoldable pub conversion_code : Result Gain FactorRefusal → ℤ
conversion_code (Ok Silent) = negsuc 32767
conversion_code (Ok (Tenths z)) = z
conversion_code (Err FactorTooHigh) = pos (1000000 * factor_too_high)

-- some factors, computed
pub conversion_codes :
    map (λ (f : ℕ). conversion_code (conversion f)) (0 ∷ 1 ∷ 1000000 ∷ 1000001 ∷ 11220184 ∷ 11220185 ∷ [])
    ≡ negsuc 32767 ∷ negsuc 599 ∷ pos 0 ∷ pos 1 ∷ pos 210 ∷ pos 34000000 ∷ []
unfolding entries tenth_at least_tenth factor_gain conversion conversion_code
conversion_codes = refl
