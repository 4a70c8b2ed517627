-- A place and the section and record that it is made of. Assumes nothing.
use Prim.Native.Nat.{ℕ, zero, suc, ◌<◌}
use mathlib.Core.Path.{◌≡◌, refl, sym}
use native.Mathlib.Omega.{arith}
use Rattle.profile.specs.declared.Place.TheVariants.{Header}
use Rattle.profile.specs.Verdict.{section_of, record_of, place_at, section_count}

-- a place gives its section and record back; the header has record 0 only
pub place_back : (section k : ℕ) → section < section_count → (section ≡ 0 → k ≡ 0) → (section_of (place_at section k) ≡ section) × (record_of (place_at section k) ≡ k)
unfolding place_at
place_back zero k l h = (refl, sym (h refl))
place_back (suc zero) k l h = (refl, refl)
place_back (suc (suc zero)) k l h = (refl, refl)
place_back (suc (suc (suc zero))) k l h = (refl, refl)
place_back (suc (suc (suc (suc zero)))) k l h = (refl, refl)
place_back (suc (suc (suc (suc (suc zero))))) k l h = (refl, refl)
place_back (suc (suc (suc (suc (suc (suc zero)))))) k l h = (refl, refl)
place_back (suc (suc (suc (suc (suc (suc (suc zero))))))) k l h = (refl, refl)
place_back (suc (suc (suc (suc (suc (suc (suc (suc n)))))))) k l h = absurd (omega arith)

-- a number that is none of sections 1 to 7 gives the header
pub header_place : (n k : ℕ) → (n ≡ 1 → ⊥) → (n ≡ 2 → ⊥) → (n ≡ 3 → ⊥) → (n ≡ 4 → ⊥) → (n ≡ 5 → ⊥) → (n ≡ 6 → ⊥) → (n ≡ 7 → ⊥) → Header ≡ place_at n k
unfolding place_at
header_place zero k a b c d e f g = refl
header_place (suc zero) k a b c d e f g = absurd (a refl)
header_place (suc (suc zero)) k a b c d e f g = absurd (b refl)
header_place (suc (suc (suc zero))) k a b c d e f g = absurd (c refl)
header_place (suc (suc (suc (suc zero)))) k a b c d e f g = absurd (d refl)
header_place (suc (suc (suc (suc (suc zero))))) k a b c d e f g = absurd (e refl)
header_place (suc (suc (suc (suc (suc (suc zero)))))) k a b c d e f g = absurd (f refl)
header_place (suc (suc (suc (suc (suc (suc (suc zero))))))) k a b c d e f g = absurd (g refl)
header_place (suc (suc (suc (suc (suc (suc (suc (suc n)))))))) k a b c d e f g = refl
