-- Which verdict says what. Assumes nothing.
use mathlib.Core.Path.{◌≡◌, refl}
use mathlib.Core.Bool.{Bool, true, false}
use Rattle.std.specs.Prelude.{◌↔◌, Err}
use Rattle.frames.specs.declared.FrameError.TheVariants.{InitialisingNotFirst, BadBlock, BadTotal}
use Rattle.frames.specs.Conformance.{accepted, first_error}

-- "in this order"
pub none_holds : (a b c : Bool) → first_error a b c ≡ accepted ↔ ((a ≡ false) × (b ≡ false) × (c ≡ false))
unfolding first_error
none_holds true b c = (λ e. cc, λ h. cc)
none_holds false true c = (λ e. cc, λ h. cc)
none_holds false false true = (λ e. cc, λ h. cc)
none_holds false false false = (λ e. (refl, refl, refl), λ h. refl)

pub first_holds : (a b c : Bool) → first_error a b c ≡ Err InitialisingNotFirst ↔ (a ≡ true)
unfolding first_error
first_holds true b c = (λ e. refl, λ h. refl)
first_holds false true c = (λ e. cc, λ h. cc)
first_holds false false true = (λ e. cc, λ h. cc)
first_holds false false false = (λ e. cc, λ h. cc)

pub second_holds : (a b c : Bool) → first_error a b c ≡ Err BadBlock ↔ ((a ≡ false) × (b ≡ true))
unfolding first_error
second_holds true b c = (λ e. cc, λ h. cc)
second_holds false true c = (λ e. (refl, refl), λ h. refl)
second_holds false false true = (λ e. cc, λ h. cc)
second_holds false false false = (λ e. cc, λ h. cc)

pub third_holds : (a b c : Bool) → first_error a b c ≡ Err BadTotal ↔ ((a ≡ false) × (b ≡ false) × (c ≡ true))
unfolding first_error
third_holds true b c = (λ e. cc, λ h. cc)
third_holds false true c = (λ e. cc, λ h. cc)
third_holds false false true = (λ e. (refl, refl, refl), λ h. refl)
third_holds false false false = (λ e. cc, λ h. cc)
