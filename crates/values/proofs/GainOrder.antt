-- The declared order of gains is the definition `at_most`. Assumes nothing.
use Rattle.std.proofs.Common.{ℕ, ◌<◌, ◌≡◌, Bool, true, false, cond, ◌&&◌, eqb, ltb, pos, negsuc, ◌-◌, refl, sym, ap, ◌∙◌, arith}
use borrow.Author.Tests.{eqb-true, eqb-false, ltb-false, le-leb, lt-leb}
use Rattle.std.proofs.lemmas.Int.{ints}
use Rattle.std.specs.Ordering.{partial_le}
use Rattle.std.specs.Int.Signed.{le_z}
use Rattle.values.specs.Gain.{at_most, gain_of, gain_in_range}
use Rattle.values.specs.Offset.{offset_in_range}
use Rattle.values.specs.Signed.{signed_of}
use Rattle.values.specs.Values.{in_range}
use Rattle.values.specs.declared.Gain.{Gain}
use Rattle.values.specs.declared.Gain.TheVariants.{Silent, Tenths}
use Rattle.values.specs.declared.Sort.{Sort}
use Rattle.values.specs.declared.Sort.TheVariants.{Gains, Offsets}
use Rattle.values.specs.contracts.GainPartialOrd.TheImpl.{partial_cmp-value}

pub partial_le-gain : (a b : Gain) → partial_le partial_cmp-value.it a b ≡ at_most a b
unfolding at_most
partial_le-gain Silent Silent = refl
partial_le-gain Silent (Tenths y) = refl
partial_le-gain (Tenths x) Silent = refl
partial_le-gain (Tenths x) (Tenths y) = grind (arith, ints)

-- so from lo to hi
pub between : (lo g hi : Gain) → partial_le partial_cmp-value.it lo g && partial_le partial_cmp-value.it g hi ≡ gain_in_range lo g hi
unfolding gain_in_range
between lo g hi = rw (partial_le-gain lo g, partial_le-gain g hi) refl

-- the number of silence's word is the least
least : (b : ℕ) → b < 65536 → le_z (negsuc 32767) (signed_of b) ≡ true
unfolding signed_of
least b m =
    (elim (ltb b 32768) as (λ t. ltb b 32768 ≡ t → le_z (negsuc 32767) (cond t (pos b) (negsuc (65535 - b))) ≡ true) [
      | true ↦ λ e. refl
      | false ↦ λ e. le-leb (65535 - b) 32767 (omega (arith, ltb-false b 32768 e))
    ]) refl

-- and below that of any other
above : (a : ℕ) → a < 65536 → eqb a 32768 ≡ false → le_z (signed_of a) (negsuc 32767) ≡ false
unfolding signed_of
above a l n =
    (elim (ltb a 32768) as (λ t. ltb a 32768 ≡ t → le_z (cond t (pos a) (negsuc (65535 - a))) (negsuc 32767) ≡ false) [
      | true ↦ λ e. refl
      | false ↦ λ e. lt-leb 32767 (65535 - a) (omega (arith, ltb-false a 32768 e, eqb-false a 32768 n))
    ]) refl

-- so the order of the numbers of two words is that of their gains
pub at_most_words : (a b : ℕ) → a < 65536 → b < 65536 → at_most (gain_of a) (gain_of b) ≡ le_z (signed_of a) (signed_of b)
unfolding at_most gain_of
at_most_words a b l m = go (eqb a 32768) (eqb b 32768) refl refl
  where
    go : (p q : Bool) → eqb a 32768 ≡ p → eqb b 32768 ≡ q → at_most (cond p Silent (Tenths (signed_of a))) (cond q Silent (Tenths (signed_of b))) ≡ le_z (signed_of a) (signed_of b)
    go true q e f = let z : signed_of a ≡ negsuc 32767 = ap signed_of (eqb-true a 32768 e) ∙ (unfold signed_of in refl) in rw z (sym (least b m))
    go false true e f = let z : signed_of b ≡ negsuc 32767 = ap signed_of (eqb-true b 32768 f) ∙ (unfold signed_of in refl) in rw z (sym (above a l e))
    go false false e f = refl

-- and one order serves both sorts
pub by_numbers : (t : Sort) (lo w hi : ℕ) → lo < 65536 → w < 65536 → hi < 65536 → offset_in_range (signed_of lo) (signed_of w) (signed_of hi) ≡ in_range t lo w hi
unfolding in_range gain_in_range offset_in_range
by_numbers Gains lo w hi l m n = rw (at_most_words lo w l m, at_most_words w hi m n) refl
by_numbers Offsets lo w hi l m n = refl
