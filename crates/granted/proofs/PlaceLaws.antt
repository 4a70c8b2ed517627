-- The place of a named set comes to the definitions of the profile. Assumes nothing.
use Prim.Native.Nat.{ℕ, ◌<◌, ◌≤◌}
use mathlib.Core.Path.{◌≡◌, refl, sym, ◌∙◌}
use mathlib.Core.Bool.{true, false}
use borrow.Author.Tests.{lt-ltb, le-ltb}
use lib.Dec.{ltb}
use Rattle.sheet.specs.Words.{Sheet}
use Rattle.sheet.specs.Layout.{number}
use Rattle.sheet.specs.Fields.{programmes, set_list}
use Rattle.profile.specs.Relations.{has_set, named_set, names_set, set_for}
use Rattle.tables.proofs.TableLaws.{lowest_any}
use Rattle.granted.specs.steps.NamedSet.{set_place}

module _ (s : Sheet) (p o : ℕ) where
  place_names : ltb (set_place s p o) (number s programmes p set_list) ≡ names_set s p o
  unfolding set_place names_set
  place_names = lowest_any (λ i. has_set s o (named_set s p i)) (number s programmes p set_list)

  -- the programme names a set for the object where there is such a place
  pub place_inside : (i n : ℕ) → i ≡ set_place s p o → n ≡ number s programmes p set_list → i < n → names_set s p o ≡ true
  place_inside i n e f l = sym place_names ∙ lt-ltb (set_place s p o) (number s programmes p set_list) (rw (← e, ← f) l)

  pub place_outside : (i n : ℕ) → i ≡ set_place s p o → n ≡ number s programmes p set_list → n ≤ i → names_set s p o ≡ false
  place_outside i n e f l = sym place_names ∙ le-ltb (set_place s p o) (number s programmes p set_list) (rw (← e, ← f) l)

  -- and it is the one there
  pub place_set : named_set s p (set_place s p o) ≡ set_for s p o
  unfolding set_place set_for
  place_set = refl
