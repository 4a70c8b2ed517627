-- Value sets that agree in their seven words, and a table of the first of each group. Assumes nothing.
use Prim.Native.Nat.{ℕ, suc, ◌+◌, ◌-◌, ◌<◌}
use mathlib.Core.Path.{◌≡◌, refl, sym, ap, ◌∙◌}
use mathlib.Core.Bool.{Bool, true, false, cond, ◌&&◌, true≢false}
use mathlib.Core.List.{List}
use mathlib.Core.Logic.{◌⊎◌, ⊎_elim, inl, inr}
use native.Mathlib.Omega.{arith}
use native.Mathlib.Numerals.{add-one}
use native.Mathlib.Nat.{eq-or-lt_of_le, eq-zero-or-pos}
use borrow.Author.Count.{below_more}
use borrow.Author.Tests.{ltb-true, ltb-false, eqb-true, eq-eqb, ne_eqb}
use lib.Dec.{eqb, ltb}
use lib.ListN.{length, get_or, set, replicate, length-set}
use Rattle.sheet.specs.Words.{Sheet}
use Rattle.profile.specs.Counting.{any}
use Rattle.profile.specs.Rules.{sets_differ}
use Rattle.profile.proofs.BoolLaws.{and_second}
use Rattle.profile.proofs.CountingLaws.{any_none}
use Rattle.profile.proofs.SetLaws.{sets_own, sets_alike, sets_through}
use Rattle.profile.proofs.SumLaws.{any_nowhere, any_one}
use Rattle.tables.specs.steps.Marks.{Standing}
use Rattle.tables.specs.steps.Right.{told}
use Rattle.tables.proofs.MarkLaws.{set_standing, nought}

-- one place of the table, written or not
pub first_written : (t : List ℕ) (y j : ℕ) → get_or t y 0 ≡ 0 → Standing (λ z. cond (eqb y z) (suc j) (get_or t z 0)) (set t y (j + 1))
first_written t y j e x l =
    set_standing t y (j + 1) (λ z. cond (eqb y z) (suc j) (get_or t z 0)) (λ z k. ap (λ (v : ℕ). cond (eqb y z) v (get_or t z 0)) (add-one j)) x (rw (length-set t y (j + 1)) at l)

pub first_kept : (t : List ℕ) (y : ℕ) → (get_or t y 0 ≡ 0 → ⊥) → Standing (λ z. cond (eqb y z) (suc (get_or t y 0 - 1)) (get_or t z 0)) t
first_kept t y h x l =
    (elim (eqb y x) as (λ b. eqb y x ≡ b → get_or t x 0 ≡ cond b (suc (get_or t y 0 - 1)) (get_or t x 0)) [
      | true ↦ λ e. sym (ap (λ (z : ℕ). get_or t z 0) (eqb-true y x e)) ∙ restored (get_or t y 0) h
      | false ↦ λ e. refl
    ]) refl
  where
    restored : (c : ℕ) → (c ≡ 0 → ⊥) → c ≡ suc (c - 1)
    restored c k = ⊎_elim (λ z. absurd (k z)) (λ p. omega arith) (eq-zero-or-pos c)

module _ (s : Sheet) (e g : ℕ → ℕ) where
  -- two places of one group whose sets differ
  abbrev pub differ : ℕ → ℕ → Bool
  differ i m = eqb (g i) (g m) && sets_differ s (e i) (e m)

  -- for each group the table has nothing, or one more than a place of it among the first j
  abbrev pub Firsts : List ℕ → ℕ → Type 0
  Firsts t j = (x : ℕ) → x < length t → ((get_or t x 0 ≡ 0) × ((i : ℕ) → i < j → eqb (g i) x ≡ false)) ⊎ ((i : ℕ) × (get_or t x 0 ≡ suc i) × (i < j) × (g i ≡ x))

  pub firsts_none : (n : ℕ) → Firsts (replicate n 0) 0
  firsts_none n x l = inl (nought n x, λ i m. absurd (omega arith))

  -- no two of the first j differ within a group
  abbrev pub Agree : ℕ → Type 0
  Agree j = (m : ℕ) → m < j → any (λ i. differ i m) m ≡ false

  module _ (t : List ℕ) (j y r : ℕ) (firsts : Firsts t j) (key : y ≡ g j) (inside : y < length t) (read : r ≡ told j (get_or t y 0)) where
    place : ((r ≡ j) × ((i : ℕ) → i < j → eqb (g i) (g j) ≡ false)) ⊎ ((r < j) × (g r ≡ g j))
    unfolding told
    place =
        ⊎_elim
        (λ none. inl (read ∙ rw none.0 refl, λ i l. ap (λ (z : ℕ). eqb (g i) z) (sym key) ∙ none.1 i l))
        (λ one.
        let q : r ≡ one.0 = read ∙ told_place (get_or t y 0) one.0 one.1 in
        inr (rw q one.2, ap g q ∙ one.3 ∙ key))
        (firsts y inside)
      where
        told_place : (c i : ℕ) → c ≡ suc i → told j c ≡ i
        told_place c i h = rw h (rw (ne_eqb (suc i) 0 (λ q. let z : suc i ≡ 0 = q in omega arith)) (omega arith))

    firsts_more : (t' : List ℕ) → length t' ≡ length t → Standing (λ z. cond (eqb y z) (suc r) (get_or t z 0)) t' → Firsts t' (j + 1)
    firsts_more t' long now x l =
        (elim (eqb y x) as (λ b. eqb y x ≡ b → ((get_or t' x 0 ≡ 0) × ((i : ℕ) → i < j + 1 → eqb (g i) x ≡ false)) ⊎ ((i : ℕ) × (get_or t' x 0 ≡ suc i) × (i < j + 1) × (g i ≡ x))) [
          | true ↦ λ h. inr (r, now x l ∙ ap (λ (b : Bool). cond b (suc r) (get_or t x 0)) h, ⊎_elim (λ a. omega (arith, a.0)) (λ a. omega (arith, a.0)) place, ⊎_elim (λ a. ap g a.0) (λ a. a.1) place ∙ sym key ∙ eqb-true y x h)
          | false ↦ λ h.
              let same : get_or t' x 0 ≡ get_or t x 0 = now x l ∙ ap (λ (b : Bool). cond b (suc r) (get_or t x 0)) h in
              ⊎_elim
              (λ none. inl (same ∙ none.0, below_more (λ i. eqb (g i) x ≡ false) j none.1 (ap (λ (z : ℕ). eqb z x) (sym key) ∙ h)))
              (λ one. inr (one.0, same ∙ one.1, omega (arith, one.2), one.3))
              (firsts x (rw long at l))
        ]) refl

    module _ (agree : Agree j) where
      agree_next : sets_differ s (e r) (e j) ≡ false → any (λ i. differ i j) j ≡ false
      agree_next d =
          ⊎_elim
          (λ none. any_nowhere (λ i. differ i j) j (λ i l. ap (λ (b : Bool). b && sets_differ s (e i) (e j)) (none.1 i l)))
          (λ one. any_nowhere (λ i. differ i j) j (λ i l. each one i l))
          place
        where
          each : (r < j) × (g r ≡ g j) → (i : ℕ) → i < j → differ i j ≡ false
          each one i l =
              (elim (eqb (g i) (g j)) as (λ b. eqb (g i) (g j) ≡ b → (b && sets_differ s (e i) (e j)) ≡ false) [
                | true ↦ λ h.
                    let gi : g i ≡ g j = eqb-true (g i) (g j) h in
                    (elim (ltb r i) as (λ b. ltb r i ≡ b → sets_differ s (e i) (e j) ≡ false) [
                      | true ↦ λ k.
                          let m : r < i = ltb-true r i k in
                          sets_alike s (e r) (e i) (e j) (and_second (eqb (g r) (g i)) (sets_differ s (e r) (e i)) (any_none (λ q. differ q i) i (agree i l) r m) (eq-eqb (g r) (g i) (one.1 ∙ sym gi))) d
                      | false ↦ λ k.
                          ⊎_elim
                          (λ q. ap (λ (z : ℕ). sets_differ s (e z) (e j)) q ∙ d)
                          (λ m. sets_through s (e i) (e r) (e j) (and_second (eqb (g i) (g r)) (sets_differ s (e i) (e r)) (any_none (λ q. differ q r) r (agree r one.0) i m) (eq-eqb (g i) (g r) (gi ∙ sym one.1))) d)
                          (eq-or-lt_of_le (ltb-false r i k))
                    ]) refl
                | false ↦ λ h. refl
              ]) refl

      pub firsts_next : sets_differ s (e r) (e j) ≡ false → (t' : List ℕ) → length t' ≡ length t → Standing (λ z. cond (eqb y z) (suc r) (get_or t z 0)) t'
          → Firsts t' (j + 1) × Agree (j + 1)
      firsts_next d t' long now = (firsts_more t' long now, below_more (λ m. any (λ i. differ i m) m ≡ false) j agree (agree_next d))

      pub found_next : sets_differ s (e r) (e j) ≡ true → any (λ i. differ i j) j ≡ true
      found_next d =
          ⊎_elim
          (λ none. absurd (true≢false (sym d ∙ ap (λ (z : ℕ). sets_differ s (e z) (e j)) none.0 ∙ sets_own s (e j))))
          (λ one. any_one (λ i. differ i j) j r one.0 (rw (eq-eqb (g r) (g j) one.1) d))
          place
