-- The word of silence is that of the least number, so one order of numbers tells which bound a value leaves. Assumes nothing.
use Rattle.std.proofs.Common.{ℕ, ◌<◌, ◌≡◌, sym, ap, ◌∙◌, not, ℤ, arith}
use Rattle.std.proofs.lemmas.Int.{ints}
use lib.Signed.{le_z, lt_z}
use Rattle.values.specs.declared.Sort.{Sort}
use Rattle.values.specs.declared.Sort.TheVariants.{Gains, Offsets}
use Rattle.values.specs.Signed.{signed_of}
use Rattle.values.proofs.GainOrder.{at_most_words}
use Rattle.figures.specs.Ranges.{below_minimum, ordered}

below : (x y : ℤ) → lt_z x y ≡ not (le_z y x)
below x y = grind (arith, ints)

pub below_words : (t : Sort) (v m : ℕ) → v < 65536 → m < 65536 → lt_z (signed_of v) (signed_of m) ≡ below_minimum t v m
unfolding below_minimum ordered
below_words Gains v m l k = below (signed_of v) (signed_of m) ∙ ap not (sym (at_most_words m v k l))
below_words Offsets v m l k = below (signed_of v) (signed_of m)
