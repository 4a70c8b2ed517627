-- Tracks of one pack, each tested with the one before. Assumes nothing.
use Prim.Native.Nat.{ℕ, zero, suc, ◌+◌, ◌<◌, ◌≤◌}
use mathlib.Core.Path.{◌≡◌, refl, sym, ap, ap₂, ◌∙◌}
use mathlib.Core.Bool.{Bool, true, false, not, ◌||◌}
use native.Mathlib.Omega.{arith}
use native.Mathlib.Nat.{add-zero}
use borrow.Author.Tests.{eqb-true, eq-eqb, not-false}
use lib.Dec.{eqb, leb}
use Rattle.profile.specs.Counting.{any, how_many, two_of}
use Rattle.profile.proofs.BoolLaws.{or_none, or_none_3}
use Rattle.profile.proofs.CountingLaws.{any_none}
use Rattle.profile.proofs.SumLaws.{any_nowhere}
use Rattle.runs.proofs.OrdinalLaws.{once_each}

-- tests that fail together
same_false : (a b : Bool) → (a ≡ false → b ≡ false) → (b ≡ false → a ≡ false) → a ≡ b
same_false true true f g = refl
same_false true false f g = g refl
same_false false b f g = sym (f refl)

-- track y has pack f y and ordinal g y, and pack p has h p channels
module _ (f g h : ℕ → ℕ) (a p n k : ℕ) (more : n ≡ suc k) (full : h p ≡ n) where
  abbrev odd : ℕ → Bool
  odd y = not (eqb (f y) (f (y + 1))) || leb (h (f (y + 1))) (g (y + 1))

  abbrev other : ℕ → Bool
  other i = not (eqb (f (a + i)) p)

  abbrev past : ℕ → Bool
  past i = leb n (g (a + i))

  next : (i : ℕ) → (a + i) + 1 ≡ a + suc i
  next i = omega arith

  -- from the first on
  module _ (start : f a ≡ p) (low : leb n (g a) ≡ false) (none : (i : ℕ) → i < k → odd (a + i) ≡ false) where
    same : (i : ℕ) → i ≤ k → f (a + i) ≡ p
    same zero l = ap f (add-zero a) ∙ start
    same (suc i) l =
        let e = eqb-true _ _ (not-false _ (or_none (not (eqb (f (a + i)) (f ((a + i) + 1)))) (leb (h (f ((a + i) + 1))) (g ((a + i) + 1))) (none i (omega arith))).0) in
        ap f (sym (next i)) ∙ sym e ∙ same i (omega arith)

    below : (i : ℕ) → i ≤ k → past i ≡ false
    below zero l = ap (λ (y : ℕ). leb n (g y)) (add-zero a) ∙ low
    below (suc i) l =
        let e : leb (h (f ((a + i) + 1))) (g ((a + i) + 1)) ≡ false = (or_none (not (eqb (f (a + i)) (f ((a + i) + 1)))) (leb (h (f ((a + i) + 1))) (g ((a + i) + 1))) (none i (omega arith))).1 in
        let d : leb (h (f (a + suc i))) (g (a + suc i)) ≡ false = rw (next i) at e in
        ap (λ (c : ℕ). leb c (g (a + suc i))) (sym full ∙ ap h (sym (same (suc i) l))) ∙ d

  abbrev told : Bool
  told = not (eqb (f a) p) || leb n (g a) || any (λ i. odd (a + i)) k

  abbrev found : Bool
  found = any other n || any past n

  forth : told ≡ false → found ≡ false
  forth e =
      let t = or_none_3 _ _ _ e in
      let start : f a ≡ p = eqb-true (f a) p (not-false _ t.0) in
      let none : (i : ℕ) → i < k → odd (a + i) ≡ false = any_none (λ i. odd (a + i)) k t.2 in
      rw (any_nowhere other n (λ i l. ap not (eq-eqb (f (a + i)) p (same start t.1 none i (omega arith)))))
      (any_nowhere past n (λ i l. below start t.1 none i (omega arith)))

  back : found ≡ false → told ≡ false
  back e =
      let t = or_none _ _ e in
      let o : (i : ℕ) → i < n → f (a + i) ≡ p = λ i l. eqb-true _ _ (not-false _ (any_none other n t.0 i l)) in
      let q : (i : ℕ) → i < n → past i ≡ false = any_none past n t.1 in
      let z : a + 0 ≡ a = add-zero a in
      let x : not (eqb (f a) p) ≡ false = ap not (eq-eqb (f a) p (ap f (sym z) ∙ o 0 (omega arith))) in
      let y : leb n (g a) ≡ false = ap (λ (w : ℕ). leb n (g w)) (sym z) ∙ q 0 (omega arith) in
      rw (x, y) (any_nowhere (λ i. odd (a + i)) k (each o q))
    where
      each : ((i : ℕ) → i < n → f (a + i) ≡ p) → ((i : ℕ) → i < n → past i ≡ false) → (i : ℕ) → i < k → odd (a + i) ≡ false
      each o q i l =
          let s : f ((a + i) + 1) ≡ p = ap f (next i) ∙ o (suc i) (omega arith) in
          let x : eqb (f (a + i)) (f ((a + i) + 1)) ≡ true = eq-eqb _ _ (o i (omega arith) ∙ sym s) in
          let y : leb (h (f ((a + i) + 1))) (g ((a + i) + 1)) ≡ false = ap (λ (c : ℕ). leb c (g ((a + i) + 1))) (ap h s ∙ full) ∙ ap (λ (w : ℕ). leb n (g w)) (next i) ∙ q (suc i) (omega arith) in
          rw (x, y) refl

  -- the first track's own test and the tests along the list find the tracks of another pack and the ordinals past the channels
  pack_run : told ≡ found
  pack_run = same_false told found forth back

  -- with the ordinals that repeat: some ordinal below n is not that of exactly one
  pub tracks_run : (t w : Bool) → t ≡ any (λ i. odd (a + i)) k → w ≡ two_of (λ i j. eqb (g (a + i)) (g (a + j))) n
      → (not (eqb (f a) p) || leb n (g a) || t || w) ≡ (any other n || any (λ c. not (eqb (how_many (λ i. eqb (g (a + i)) c) n) 1)) n)
  tracks_run t w d e =
      ap (λ (b : Bool). not (eqb (f a) p) || leb n (g a) || b || w) d
      ∙ ap₂ (λ (b c : Bool). b || c) pack_run e
      ∙ grouped (any other n) (any past n) (two_of (λ i j. eqb (g (a + i)) (g (a + j))) n)
      ∙ ap (λ (b : Bool). any other n || b) (sym (once_each (λ i. g (a + i)) n))
    where
      grouped : (a b d : Bool) → ((a || b) || d) ≡ (a || (b || d))
      grouped true b d = refl
      grouped false b d = refl
