-- Sets that stand for others. Assumes nothing.
use Prim.Native.Nat.{ℕ, ◌+◌, ◌-◌, ◌<◌}
use mathlib.Core.Path.{◌≡◌, refl, sym, ap, ◌∙◌}
use mathlib.Core.Bool.{Bool, true, false, cond}
use mathlib.Core.List.{List, []}
use native.Mathlib.Omega.{arith}
use borrow.Author.Tests.{eqb-true, ne_eqb, ltb-true, ltb-false}
use lib.Dec.{eqb, ltb}
use lib.ListN.{length, get_or}
use Rattle.sheet.specs.Words.{Sheet}
use Rattle.profile.specs.Rules.{sets_differ}
use Rattle.tables.specs.steps.Marks.{Standing}
use Rattle.tables.specs.steps.Right.{told}
use Rattle.inclusion.specs.steps.Alike.{Alike, representative}
use Rattle.profile.proofs.SetLaws.{sets_own}
use Rattle.inclusion.proofs.PassLaws.{past}

-- one more than a number tells it
one_more : (v u : ℕ) → told v (u + 1) ≡ u
unfolding told
one_more v u =
    let some : u + 1 ≡ 0 → ⊥ = λ q. let z : u + 1 ≡ 0 = q in absurd (omega arith) in
    let less : u + 1 - 1 ≡ u = omega arith in
    ap (λ (b : Bool). cond b v (u + 1 - 1)) (ne_eqb (u + 1) 0 some) ∙ less

module _ (s : Sheet) where
  -- by what stands there
  by : (t : List ℕ) (v c : ℕ) → get_or t v 0 ≡ c → sets_differ s (told v c) v ≡ false → sets_differ s (representative t v) v ≡ false
  unfolding representative
  by t v c e h = ap (λ (c : ℕ). sets_differ s (told v c) v) e ∙ h

  itself : (t : List ℕ) (v : ℕ) → get_or t v 0 ≡ 0 → sets_differ s (representative t v) v ≡ false
  unfolding told
  itself t v e = by t v 0 e (sets_own s v)

  pub alike_empty : Alike s []
  alike_empty v = itself [] v refl

  pub alike_none : (t : List ℕ) → Standing (λ x. 0) t → Alike s t
  alike_none t noughts v =
      (elim (ltb v (length t)) as (λ b. ltb v (length t) ≡ b → sets_differ s (representative t v) v ≡ false) [
        | true ↦ λ e. itself t v (noughts v (ltb-true v (length t) e))
        | false ↦ λ e. itself t v (sym (past t v (ltb-false v (length t) e)))
      ]) refl

  -- a set stands for one more
  pub alike_more : (t t' : List ℕ) (y u : ℕ) → Standing (λ z. cond (eqb y z) (u + 1) (get_or t z 0)) t' → sets_differ s u y ≡ false → Alike s t → Alike s t'
  unfolding representative
  alike_more t t' y u now same before v =
      (elim (ltb v (length t')) as (λ b. ltb v (length t') ≡ b → sets_differ s (representative t' v) v ≡ false) [
        | true ↦ λ e. inside (ltb-true v (length t') e)
        | false ↦ λ e. itself t' v (sym (past t' v (ltb-false v (length t') e)))
      ]) refl
    where
      inside : v < length t' → sets_differ s (representative t' v) v ≡ false
      inside l =
          (elim (eqb y v) as (λ b. eqb y v ≡ b → sets_differ s (representative t' v) v ≡ false) [
            | true ↦ λ h.
                by t' v (u + 1) (now v l ∙ ap (λ (b : Bool). cond b (u + 1) (get_or t v 0)) h)
                (ap (λ (x : ℕ). sets_differ s x v) (one_more v u) ∙ ap (sets_differ s u) (sym (eqb-true y v h)) ∙ same)
            | false ↦ λ h. by t' v (get_or t v 0) (now v l ∙ ap (λ (b : Bool). cond b (u + 1) (get_or t v 0)) h) (before v)
          ]) refl
