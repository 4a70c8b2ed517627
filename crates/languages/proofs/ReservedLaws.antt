-- The reserved words stand together. Assumes nothing.
use Rattle.std.proofs.Common.{ℕ, ◌/◌, ◌%◌, ◌≡◌, refl, true, false, ◌&&◌, arith}
use borrow.Author.Tests.{eq-eqb, ne_eqb, le-leb, lt-leb, leb-true, leb-false, eqb-true, ltb-true, ltb-false}
use lib.Dec.{eqb, leb, ltb}
use Rattle.profile.specs.Languages.{is_reserved}

pub between : (w : ℕ) → (leb 17408 w && ltb w 18080) ≡ is_reserved w
unfolding is_reserved
between w =
    (elim (leb 17408 w) as (λ b. leb 17408 w ≡ b → (b && ltb w 18080) ≡ (eqb (w / 1024) 17 && leb (w / 32 % 32) 20)) [
      | true ↦ λ e. let from = leb-true 17408 w e in
          (elim (ltb w 18080) as (λ b. ltb w 18080 ≡ b → (true && b) ≡ (eqb (w / 1024) 17 && leb (w / 32 % 32) 20)) [
            | true ↦ λ f. let to = ltb-true w 18080 f in simp (eq-eqb (w / 1024) 17 (omega (arith, from, to)), le-leb (w / 32 % 32) 20 (omega (arith, from, to)))
            | false ↦ λ f. let past = ltb-false w 18080 f in
                (elim (eqb (w / 1024) 17) as (λ b. eqb (w / 1024) 17 ≡ b → (true && false) ≡ (b && leb (w / 32 % 32) 20)) [
                  | true ↦ λ g. let q = eqb-true (w / 1024) 17 g in simp (lt-leb (w / 32 % 32) 20 (omega (arith, past, q)))
                  | false ↦ λ g. refl
                ]) refl
          ]) refl
      | false ↦ λ e. let before = leb-false 17408 w e in simp (ne_eqb (w / 1024) 17 (λ q. let z : w / 1024 ≡ 17 = q in omega (arith, before, z)))
    ]) refl
