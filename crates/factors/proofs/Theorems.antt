-- The theorems that are promised of table and converter (document 02, L3), each stated whole and proved by what it cites. That the code's
-- answer is `conversion` is in its contract (src/convert.rt). Assumes nothing.
use Prim.Native.Nat.{ℕ, ◌<◌, ◌≤◌}
use mathlib.Core.Path.{◌≡◌, refl, ap, ◌∙◌}
use mathlib.Core.Bool.{true}
use mathlib.Core.List.{map}
use native.Mathlib.Omega.{arith}
use lib.IntN.{ℤ, pos, negsuc}
use lib.ListN.{length}
use lib.Signed.{lt_z}
use Rattle.std.specs.Prelude.{Ok, Err}
use Rattle.values.specs.declared.Gain.TheVariants.{Silent, Tenths}
use Rattle.values.specs.Gain.{at_most, legal_gain}
use Rattle.factors.specs.declared.FactorRefusal.TheVariants.{FactorTooHigh}
use Rattle.factors.specs.Table.{entries}
use Rattle.factors.specs.Decibels.{keeps_rule}
use Rattle.factors.specs.Conversion.{most_factor, least_tenth, factor_gain, conversion}
use Rattle.factors.specs.Cases.{Case, cases, cases_hold}
use Rattle.factors.specs.Promises.{IsTenth, entry_of, EntryLargest, LeastTenth}
use Rattle.factors.proofs.TableLaws.{rule_kept, all_there, entries_rise}
use Rattle.factors.proofs.TenthLaws.{entry_at_lem, tenth_place, earlier}
use Rattle.factors.proofs.DecibelLaws.{tenth_largest, least_tenth_lem}
use Rattle.factors.proofs.ConversionLaws.{answered, refused, tenths, lowest_tenth, gain_legal, no_lower, least_once}

-- "a fixed table of 811 entries"
pub table_has_811_entries : length entries ≡ 811
table_has_811_entries = all_there

-- "The rule is shown by one test over all entries."
pub table_passes_its_test : keeps_rule entries ≡ true
table_passes_its_test = rule_kept

-- "for each tenth d from -600 to 210 the largest n where n to the power 200, times 10 to the power 600, is at most 10 to the power (1800 + d)"
pub entries_are_the_largest : (d : ℤ) → IsTenth d → EntryLargest d
entries_are_the_largest d t = let p = tenth_place d t in rw (← p.1.1) (tenth_largest p.0 p.1.0)

-- the entries rise
pub entries_rise_by_tenths : (d e : ℤ) → IsTenth d → IsTenth e → lt_z d e ≡ true → entry_of d < entry_of e
entries_rise_by_tenths d e t u h =
    let p = tenth_place d t in let q = tenth_place e u in
    let l : p.0 < q.0 = earlier p.0 q.0 (rw (p.1.1, q.1.1) h) in
    rw (← p.1.1, ← q.1.1, entry_at_lem p.0, entry_at_lem q.0) (entries_rise p.0 q.0 l (rw all_there q.1.0))

-- "the least tenth of a dB that is not below it", for each factor from 1 to 11,220,184
pub factors_give_the_least_tenth : (f : ℕ) → 1 ≤ f → f ≤ most_factor → (conversion f ≡ Ok (Tenths (least_tenth f))) × LeastTenth f (least_tenth f)
factors_give_the_least_tenth f h m = (answered f m ∙ ap Ok (tenths f h), least_tenth_lem f m)

-- no other tenth is that
pub the_least_tenth_is_one : (f : ℕ) (d e : ℤ) → LeastTenth f d → LeastTenth f e → d ≡ e
the_least_tenth_is_one = least_once

-- "0 is silence"
pub nought_is_silence : conversion 0 ≡ Ok Silent
unfolding conversion factor_gain
nought_is_silence = refl

-- "1 to 1,000 give -600"
pub low_factors_give_the_floor : (f : ℕ) → 1 ≤ f → f ≤ 1000 → conversion f ≡ Ok (Tenths (negsuc 599))
low_factors_give_the_floor f h l = answered f (omega (arith, l)) ∙ ap Ok (tenths f h ∙ ap Tenths (lowest_tenth f l))

-- "1,000,000 gives 0, 1,000,001 gives 1": these, and others, computed
pub cases_have_their_answers : map (λ (c : Case). conversion c.factor) cases ≡ map (λ (c : Case). c.answer) cases
cases_have_their_answers = cases_hold

-- "11,220,184" is the last entry, that of 210
pub the_last_entry : entry_of (pos 210) ≡ most_factor
unfolding entry_of entries
the_last_entry = refl

-- "34, the factor is above 11,220,184": then it is refused, and all others are answered a legal gain
pub high_factors_are_refused : (f : ℕ) → most_factor < f → conversion f ≡ Err FactorTooHigh
high_factors_are_refused = refused

pub others_give_a_legal_gain : (f : ℕ) → f ≤ most_factor → (conversion f ≡ Ok (factor_gain f)) × (legal_gain (factor_gain f) ≡ true)
others_give_a_legal_gain f h = (answered f h, gain_legal f h)

-- a higher factor gives no lower gain
pub higher_factors_give_no_lower_gain : (f g : ℕ) → f ≤ g → g ≤ most_factor → at_most (factor_gain f) (factor_gain g) ≡ true
higher_factors_give_no_lower_gain = no_lower
