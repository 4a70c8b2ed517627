-- Two numbers have the same bits where neither is above the other, and two gains are equal so. Assumes nothing.
use Rattle.std.proofs.Common.{arith}
use Rattle.std.proofs.lemmas.Int.{ints}
use mathlib.Core.Path.{◌≡◌, refl, sym, ap, ◌∙◌}
use mathlib.Core.Bool.{true, false, ◌&&◌}
use borrow.Author.Tests.{eqb-true, eqb-false}
use lib.Dec.{eqb}
use lib.IntN.{ℤ}
use lib.Signed.{le_z}
use mir.Syntax.{w16}
use mir.Val.{to_z, of_z}
use Rattle.profile.proofs.BoolLaws.{and_both}
use Rattle.values.specs.Gain.{at_most}
use Rattle.values.proofs.Order.{le_z_refl, le_z_antisym}
use Rattle.values.specs.declared.Gain.{Gain}
use Rattle.values.specs.declared.Gain.TheVariants.{Silent, Tenths}
use Rattle.values.specs.contracts.GainPartialEq.TheImpl.{eq-value}
use Rattle.granted.specs.Fitting.{same_gain}

pub same_bits : (x y : ℤ) → to_z w16 (of_z w16 x) ≡ x → to_z w16 (of_z w16 y) ≡ y → eqb (of_z w16 x) (of_z w16 y) ≡ (le_z x y && le_z y x)
same_bits x y p q =
    (elim (eqb (of_z w16 x) (of_z w16 y)) as (λ b. eqb (of_z w16 x) (of_z w16 y) ≡ b → b ≡ (le_z x y && le_z y x)) [
      | true ↦ λ e. alike (sym p ∙ ap (to_z w16) (eqb-true (of_z w16 x) (of_z w16 y) e) ∙ q)
      | false ↦ λ e. apart (λ z. eqb-false (of_z w16 x) (of_z w16 y) e (ap (of_z w16) z))
    ]) refl
  where
    alike : x ≡ y → true ≡ (le_z x y && le_z y x)
    alike z = rw (z, le_z_refl y) refl

    apart : (x ≡ y → ⊥) → false ≡ (le_z x y && le_z y x)
    apart n =
        (elim (le_z x y && le_z y x) as (λ b. (le_z x y && le_z y x) ≡ b → false ≡ b) [
          | true ↦ λ f. let parts = and_both (le_z x y) (le_z y x) f in absurd (n (le_z_antisym x y parts.0 parts.1))
          | false ↦ λ f. refl
        ]) refl

-- the derived equality of gains
pub eq_gain : (a b : Gain) → eq-value.it a b ≡ same_gain a b
unfolding same_gain at_most
eq_gain Silent Silent = refl
eq_gain Silent (Tenths y) = refl
eq_gain (Tenths x) Silent = refl
eq_gain (Tenths x) (Tenths y) = grind (arith, ints)
