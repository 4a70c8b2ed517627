-- Value sets that agree in their seven words: to agree is an equivalence. Assumes nothing.
use Prim.Native.Nat.{ℕ, ◌+◌, ◌<◌}
use mathlib.Core.Path.{◌≡◌, refl, sym, ap, ◌∙◌}
use mathlib.Core.Bool.{false, not}
use borrow.Author.Tests.{eqb-true, eq-eqb, not-false}
use lib.Dec.{eqb}
use Rattle.sheet.specs.Words.{Sheet}
use Rattle.sheet.specs.Layout.{field}
use Rattle.sheet.specs.Fields.{value_sets, set_gain}
use Rattle.profile.specs.Rules.{sets_differ}
use Rattle.profile.proofs.CountingLaws.{any_none}
use Rattle.profile.proofs.SumLaws.{any_nowhere}

module _ (s : Sheet) where
  -- sets that do not differ have the same words
  same_words : (u v f : ℕ) → sets_differ s u v ≡ false → f < 7 → field s value_sets u (set_gain + f) ≡ field s value_sets v (set_gain + f)
  unfolding sets_differ
  same_words u v f e l = eqb-true _ _ (not-false _ (any_none (λ g. not (eqb (field s value_sets u (set_gain + g)) (field s value_sets v (set_gain + g)))) 7 e f l))

  pub same_sets : (u v : ℕ) → ((f : ℕ) → f < 7 → field s value_sets u (set_gain + f) ≡ field s value_sets v (set_gain + f)) → sets_differ s u v ≡ false
  unfolding sets_differ
  same_sets u v h = any_nowhere (λ g. not (eqb (field s value_sets u (set_gain + g)) (field s value_sets v (set_gain + g)))) 7 (λ f l. ap not (eq-eqb _ _ (h f l)))

  pub sets_own : (u : ℕ) → sets_differ s u u ≡ false
  sets_own u = same_sets u u (λ f l. refl)

  -- both agree with a third
  pub sets_alike : (w u v : ℕ) → sets_differ s w u ≡ false → sets_differ s w v ≡ false → sets_differ s u v ≡ false
  sets_alike w u v a b = same_sets u v (λ f l. sym (same_words w u f a l) ∙ same_words w v f b l)

  -- one agrees with another, and that with a third
  pub sets_through : (u v w : ℕ) → sets_differ s u v ≡ false → sets_differ s v w ≡ false → sets_differ s u w ≡ false
  sets_through u v w e f = same_sets u w (λ g l. same_words u v g e l ∙ same_words v w g f l)
