-- What a sheet has that is refused: the rules before the broken one are kept. Assumes nothing.
use Prim.Native.Nat.{ℕ, ◌<◌}
use mathlib.Core.Path.{◌≡◌, refl, ap, ◌∙◌}
use mathlib.Core.Bool.{Bool, true, false, not, ◌&&◌, ◌||◌}
use mathlib.Core.Logic.{inl}
use mathlib.Core.List.{List}
use native.Mathlib.Omega.{arith}
use lib.Dec.{eqb, ltb, leb}
use borrow.Author.Tests.{leb-false, eqb-true, ltb-true, not-false}
use Rattle.sheet.specs.Words.{Sheet}
use Rattle.sheet.specs.Layout.{count, field, number, entry}
use Rattle.sheet.specs.Fields.{objects, tracks, packs, value_sets, track_list, child_list, complement_list, interact, set_own}
use Rattle.values.specs.declared.Sort.{Sort}
use Rattle.values.specs.declared.Sort.TheVariants.{Gains, Offsets}
use Rattle.profile.specs.declared.Place.{Place}
use Rattle.profile.specs.declared.Verdict.TheVariants.{Broken}
use Rattle.profile.specs.Counting.{how_many, any, lowest, lowest_from}
use Rattle.profile.specs.Relations.{pack_of, has_pack, has_set, owner, object_minimum, object_maximum, set_minimum, set_maximum}
use Rattle.profile.specs.Rules.{rule5, rule6, rule11, lacks, list_lacks, bad_object, bad_object_words, bad_set, bad_set_words, set_range}
use Rattle.profile.specs.Verdict.{verdict, breaks, subjects, subject_kind, position, number_at, rule_at, rule_count, rules}
use Rattle.profile.specs.AcceptedSheet.{LegalRange}
use Rattle.profile.proofs.AcceptedLaws.{legal_range}
use Rattle.profile.proofs.BoolLaws.{or_false, or_none_3, or_none_4}
use Rattle.profile.proofs.CountingLaws.{any_none, any_how_many, finds}
use Rattle.profile.proofs.GroupLaws.{any_witness}
use Rattle.profile.proofs.VerdictLaws.{broken_first}

-- rules 6 and 11 come before rule 18, and rule 5 before rule 20
pub six_eighteen : position 6 < position 18
unfolding position lowest lowest_from number_at rule_at rule_count rules
six_eighteen = omega arith

pub eleven_eighteen : position 11 < position 18
unfolding position lowest lowest_from number_at rule_at rule_count rules
eleven_eighteen = omega arith

pub five_twenty : position 5 < position 20
unfolding position lowest lowest_from number_at rule_at rule_count rules
five_twenty = omega arith

-- an entry that the target section does not lack
in_section : (s : Sheet) (target section k at i : ℕ) → list_lacks s target section k at ≡ false → i < number s section k at → entry s section k at i < count s target
unfolding list_lacks lacks
in_section s target section k at i e l = leb-false _ _ (any_none (λ j. leb (count s target) (entry s section k at j)) (number s section k at) e i l)

-- a set that is in exactly one span has an owner
one_owner : (s : Sheet) (v : ℕ) → how_many (λ o. has_set s o v) (count s objects) ≡ 1 → owner s v < count s objects
unfolding owner
one_owner s v e =
    let p : ℕ → Bool = λ o. has_set s o v in
    let some : any p (count s objects) ≡ true = any_how_many p (count s objects) ∙ ap (λ (k : ℕ). not (eqb k 0)) e in
    let w = any_witness p (count s objects) some in
    ltb-true _ _ (finds p (count s objects) w.0 w.1 w.2)

module _ (s : Sheet) (langs : List ℕ) (rule : ℕ) (place : Place) (e : verdict s langs ≡ Broken rule place) where
  -- a rule that comes before is broken nowhere
  pub kept : (r section k : ℕ) → position r < position rule → k < subjects s r section → breaks s langs r section k ≡ false
  kept r section k l m =
      (elim (breaks s langs r section k) as (λ t. breaks s langs r section k ≡ t → breaks s langs r section k ≡ false) [
        | true ↦ λ f. absurd ((broken_first s langs rule place e).nothing_earlier r section k (inl l) (record { subject = m; broken = f }))
        | false ↦ λ f. f
      ]) refl

  rule5_object : position 5 < position rule → (o : ℕ) → o < count s objects
      → (has_pack s o && lacks s packs (pack_of s o) || list_lacks s tracks objects o track_list || list_lacks s objects objects o child_list || list_lacks s objects objects o complement_list) ≡ false
  unfolding breaks subjects subject_kind rule5
  rule5_object b o l = simp or_false at (kept 5 objects o b l)

  rule6_object : position 6 < position rule → (o : ℕ) → o < count s objects → bad_object s o ≡ false
  unfolding breaks subjects subject_kind rule6
  rule6_object b o l = simp or_false at (kept 6 objects o b l)

  rule6_set : position 6 < position rule → (v : ℕ) → v < count s value_sets → bad_set s v ≡ false
  unfolding breaks subjects subject_kind rule6
  rule6_set b v l = kept 6 value_sets v b l

  rule11_set : position 11 < position rule → (v : ℕ) → v < count s value_sets → not (eqb (how_many (λ o. has_set s o v) (count s objects)) 1) ≡ false
  unfolding breaks subjects subject_kind rule11
  rule11_set b v l = kept 11 value_sets v b l

  -- a complement's index is one of its section
  pub complement_index : position 5 < position rule → (o i : ℕ) → o < count s objects → i < number s objects o complement_list → entry s objects o complement_list i < count s objects
  complement_index b o i l m =
      in_section s objects objects o complement_list i
      (or_none_4 (has_pack s o && lacks s packs (pack_of s o)) (list_lacks s tracks objects o track_list) (list_lacks s objects objects o child_list) (list_lacks s objects objects o complement_list) (rule5_object b o l)).3
      m

  -- the owner's index too
  pub owner_index : position 11 < position rule → (v : ℕ) → v < count s value_sets → owner s v < count s objects
  owner_index b v l = one_owner s v (eqb-true _ _ (not-false _ (rule11_set b v l)))

  -- the ranges of objects and sets are legal
  object_words : position 6 < position rule → (o : ℕ) (t : Sort) → o < count s objects → bad_object_words s o t ≡ false
  unfolding bad_object
  object_words b o Gains l = (or_none_3 (ltb 1 (field s objects o interact)) (bad_object_words s o Gains) (bad_object_words s o Offsets) (rule6_object b o l)).1
  object_words b o Offsets l = (or_none_3 (ltb 1 (field s objects o interact)) (bad_object_words s o Gains) (bad_object_words s o Offsets) (rule6_object b o l)).2

  set_words : position 6 < position rule → (v : ℕ) (t : Sort) → v < count s value_sets → bad_set_words s v t ≡ false
  unfolding bad_set
  set_words b v Gains l = (or_none_4 (ltb 1 (field s value_sets v set_own)) (bad_set_words s v Gains) (bad_set_words s v Offsets) (eqb (field s value_sets v set_own) 0 && (set_range s v Gains || set_range s v Offsets)) (rule6_set b v l)).1
  set_words b v Offsets l = (or_none_4 (ltb 1 (field s value_sets v set_own)) (bad_set_words s v Gains) (bad_set_words s v Offsets) (eqb (field s value_sets v set_own) 0 && (set_range s v Gains || set_range s v Offsets)) (rule6_set b v l)).2

  pub object_range_lem : position 6 < position rule → (o : ℕ) (t : Sort) → o < count s objects → LegalRange t (field s objects o (object_minimum t)) (field s objects o (object_maximum t))
  unfolding bad_object_words
  object_range_lem b o t l = legal_range t _ _ _ (object_words b o t l)

  pub set_range_lem : position 6 < position rule → (v : ℕ) (t : Sort) → v < count s value_sets → LegalRange t (field s value_sets v (set_minimum t)) (field s value_sets v (set_maximum t))
  unfolding bad_set_words
  set_range_lem b v t l = legal_range t _ _ _ (set_words b v t l)
