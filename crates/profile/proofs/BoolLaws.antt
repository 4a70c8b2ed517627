-- Laws of the tests on tests. Assumes nothing.
use mathlib.Core.Path.{◌≡◌, refl, sym}
use Prim.Native.Nat.{◌≤◌}
use mathlib.Core.Bool.{Bool, true, false, true≢false, cond, not, ◌&&◌, ◌||◌}
use mathlib.Core.Logic.{◌⊎◌, inl, inr}
use native.Mathlib.Omega.{arith}
use mir.Val.{bool_byte}

-- a test as a number
pub byte_cond : (b : Bool) → bool_byte b ≡ cond b 1 0
byte_cond true = refl
byte_cond false = refl

pub byte_le : (b : Bool) → bool_byte b ≤ 1
byte_le true = omega arith
byte_le false = omega arith

pub or_true : (b : Bool) → (b || true) ≡ true
or_true true = refl
or_true false = refl

pub or_false : (b : Bool) → (b || false) ≡ b
or_false true = refl
or_false false = refl

-- an or that fails
pub or_none : (a b : Bool) → (a || b) ≡ false → (a ≡ false) × (b ≡ false)
or_none true b e = absurd (true≢false e)
or_none false b e = (refl, e)

-- an and that holds
pub and_both : (a b : Bool) → (a && b) ≡ true → (a ≡ true) × (b ≡ true)
and_both true b e = (refl, e)
and_both false b e = absurd (true≢false (sym e))

-- an and that fails although its first part holds
pub and_second : (a b : Bool) → (a && b) ≡ false → a ≡ true → b ≡ false
and_second true b e h = e
and_second false b e h = absurd (true≢false (sym h))

-- one of a test and its negation holds, at both sides of two tests that do not agree
pub opposites : (a b : Bool) → (a && b || not a && not b) ≡ false → a ≡ not b
opposites true true e = absurd (true≢false e)
opposites true false e = refl
opposites false true e = refl
opposites false false e = absurd (true≢false e)

-- two tests of which not one alone holds
pub together : (a b : Bool) → (a && not b || not a && b) ≡ false → a ≡ b
together true true e = refl
together true false e = absurd (true≢false e)
together false true e = absurd (true≢false e)
together false false e = refl

-- an or of three, of four, that fails
pub or_none_3 : (a b c : Bool) → (a || b || c) ≡ false → (a ≡ false) × (b ≡ false) × (c ≡ false)
or_none_3 a b c e = let l = or_none (a || b) c e in let m = or_none a b l.0 in (m.0, m.1, l.1)

pub or_none_4 : (a b c d : Bool) → (a || b || c || d) ≡ false → (a ≡ false) × (b ≡ false) × (c ≡ false) × (d ≡ false)
or_none_4 a b c d e = let l = or_none (a || b || c) d e in let m = or_none_3 a b c l.0 in (m.0, m.1, m.2, l.1)

-- of two cases one holds, and what each forbids fails
pub one_of : (a b c d : Bool) → (a || b) ≡ true → (b && c) ≡ false → (a && d) ≡ false → (c ≡ false) ⊎ (d ≡ false)
one_of true b c d h e f = inr f
one_of false true c d h e f = inl e
one_of false false c d h e f = absurd (true≢false (sym h))

pub first_of_7 : (a b c d e f g : Bool) → (a || b || c || d || e || f || g) ≡ false → a ≡ false
first_of_7 a b c d e f g h = (or_none_4 a b c d (or_none_4 (a || b || c || d) e f g h).0).0

-- an or that holds
pub or_either : (a b : Bool) → (a || b) ≡ true → (a ≡ true) ⊎ (b ≡ true)
or_either true b e = inl refl
or_either false b e = inr e
