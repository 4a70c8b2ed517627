-- Factors with their answers, computed. Document 02, L3: "0 is silence, 1 to 1,000 give -600, 1,000,000 gives 0, 1,000,001 gives 1. [..] Errors:
-- 34, the factor is above 11,220,184." Assumes nothing.
use Rattle.std.specs.Prelude.{ℕ, ◌≡◌, refl, List, [], ◌∷◌, map, pos, negsuc, Result, Ok, Err}
use Rattle.values.specs.declared.Gain.{Gain}
use Rattle.values.specs.declared.Gain.TheVariants.{Silent, Tenths}
use Rattle.factors.specs.declared.FactorRefusal.{FactorRefusal}
use Rattle.factors.specs.declared.FactorRefusal.TheVariants.{FactorTooHigh}
use Rattle.factors.specs.Table.{entries}
use Rattle.factors.specs.Decibels.{tenth_at}
use Rattle.factors.specs.Conversion.{least_tenth, factor_gain, conversion}

pub record Case : Type 0 where
  pub factor : ℕ
  pub answer : Result Gain FactorRefusal

abbrev case : ℕ → Result Gain FactorRefusal → Case
case f c = record { factor = f; answer = c }

abbrev pub cases : List Case
cases =
    case 0 (Ok Silent)
    ∷ case 1 (Ok (Tenths (negsuc 599)))
    ∷ case 1000 (Ok (Tenths (negsuc 599)))
    ∷ case 1001 (Ok (Tenths (negsuc 598)))
    ∷ case 1011 (Ok (Tenths (negsuc 598)))
    ∷ case 988553 (Ok (Tenths (negsuc 0)))
    ∷ case 988554 (Ok (Tenths (pos 0)))
    ∷ case 1000000 (Ok (Tenths (pos 0)))
    ∷ case 1000001 (Ok (Tenths (pos 1)))
    ∷ case 2000000 (Ok (Tenths (pos 61)))
    ∷ case 11091748 (Ok (Tenths (pos 209)))
    ∷ case 11091749 (Ok (Tenths (pos 210)))
    ∷ case 11220184 (Ok (Tenths (pos 210)))
    ∷ case 11220185 (Err FactorTooHigh)
    ∷ case 4294967295 (Err FactorTooHigh)
    ∷ []

pub cases_hold : map (λ (c : Case). conversion c.factor) cases ≡ map (λ (c : Case). c.answer) cases
unfolding entries tenth_at least_tenth factor_gain conversion
cases_hold = refl
