-- An accepted sheet has what acceptance grants: each fact from the rule that grants it. Assumes nothing.
use Prim.Native.Nat.{ℕ, ◌<◌, ◌≤◌}
use mathlib.Core.Path.{◌≡◌, refl, sym, ap, ◌∙◌}
use mathlib.Core.List.{List}
use mathlib.Core.Bool.{Bool, true, false, true≢false, not, ◌&&◌, ◌||◌}
use mathlib.Core.Logic.{◌⊎◌, inl, inr, ⊎_elim}
use native.Mathlib.Omega.{arith}
use lib.Dec.{eqb, ltb, leb}
use borrow.Author.Tests.{ltb-false, leb-false, eqb-true, not-true, not-false, ne_eqb}
use Rattle.sheet.specs.Words.{Sheet}
use Rattle.sheet.specs.Layout.{edition, level, count, field, number, entry}
use Rattle.sheet.specs.Fields.{header, programmes, programme_labels, contents, objects, packs, tracks, value_sets, content_list, set_list, content_object, track_list, child_list, complement_list, set_span, interact, pack_kind, pack_channels, pack_front, set_own, track_pack, track_ordinal}
use Rattle.values.specs.declared.Sort.{Sort}
use Rattle.values.specs.declared.Sort.TheVariants.{Gains, Offsets}
use Rattle.values.specs.Values.{is_absent, is_value, is_minimum, is_maximum, in_range}
use Rattle.profile.specs.declared.Verdict.TheVariants.{Accepted}
use Rattle.profile.specs.Counting.{any, how_many, sum}
use Rattle.profile.specs.Limits.{limit, exceeds, programmes_limit, objects_limit, programme_contents_limit, programme_sets_limit, labels_limit, channels_limit, counted_limit}
use Rattle.profile.specs.Relations.{times, pack_of, has_pack, has_children, has_objects_pack, top, leader, included, wholly_included, has_set, owner, named_set, object_value, object_minimum, object_maximum, set_value, effective_value, effective_minimum, effective_maximum, counted_tracks, namings, channels, track_at}
use Rattle.profile.specs.Rules.{rule2, rule5, rule6, rule7, rule8, rule10, rule11, rule13, rule14, rule15, rule18, rule19, rule21, rule24, lacks, list_lacks, bad_words, bad_object, bad_object_words, bad_pack, bad_set, bad_set_words, object_range, set_range, outside, bad_complement, leaves, object_leaves, set_leaves}
use Rattle.profile.specs.Verdict.{breaks, subjects, subject_kind, verdict}
use Rattle.profile.specs.AcceptedSheet.{AcceptedSheet, Legal, LegalRange, Within}
use Rattle.profile.proofs.BoolLaws.{or_false, or_none, or_none_3, or_none_4, first_of_7, and_both, and_second, opposites, together, one_of}
use Rattle.profile.proofs.CountingLaws.{any_none}
use Rattle.profile.proofs.VerdictLaws.{accepted_none}

-- words that rule 6 has not refused: each is absent or legal, and a range is there whole or not at all
legal_words : (t : Sort) (w lo hi : ℕ) → bad_words t w lo hi ≡ false
    → (Legal t w) × ((is_absent lo || is_minimum t lo) ≡ true) × ((is_absent hi || is_maximum t hi) ≡ true) × (is_absent lo ≡ is_absent hi)
unfolding bad_words
legal_words t w lo hi e =
    let parts = or_none_4 (not (is_absent w || is_value t w)) (not (is_absent lo || is_minimum t lo)) (not (is_absent hi || is_maximum t hi)) (is_absent lo && not (is_absent hi) || not (is_absent lo) && is_absent hi) e in
    (not-false _ parts.0, not-false _ parts.1, not-false _ parts.2, together (is_absent lo) (is_absent hi) parts.3)

pub legal_range : (t : Sort) (w lo hi : ℕ) → bad_words t w lo hi ≡ false → LegalRange t lo hi
legal_range t w lo hi e present =
    let legal = legal_words t w lo hi e in
    (rw present at legal.1, rw (sym legal.3 ∙ present) at legal.2)

-- a range that rule 18 has not refused
stays : (t : Sort) (w lo hi : ℕ) → leaves t w lo hi ≡ false → Within t lo w hi
unfolding leaves
stays t w lo hi e present = not-false _ (and_second (not (is_absent lo)) (not (in_range t lo w hi)) e (ap not present))

module _ (s : Sheet) (langs : List ℕ) (accepted : verdict s langs ≡ Accepted) where
  unbroken : (rule section k : ℕ) → k < subjects s rule section → breaks s langs rule section k ≡ false
  unbroken rule section k l =
      (elim (breaks s langs rule section k) as (λ t. breaks s langs rule section k ≡ t → breaks s langs rule section k ≡ false) [
        | true ↦ λ e. absurd (accepted_none s langs accepted rule section k (record { subject = l; broken = e }))
        | false ↦ λ e. e
      ]) refl

  -- an entry that the target section does not lack
  in_section : (target section k at i : ℕ) → list_lacks s target section k at ≡ false → i < number s section k at → entry s section k at i < count s target
  unfolding list_lacks lacks
  in_section target section k at i e l = leb-false _ _ (any_none (λ j. leb (count s target) (entry s section k at j)) (number s section k at) e i l)

  rule5_programme : (p : ℕ) → p < count s programmes → (list_lacks s contents programmes p content_list || list_lacks s value_sets programmes p set_list) ≡ false
  unfolding breaks subjects subject_kind rule5
  rule5_programme p l = simp or_false at (unbroken 5 programmes p l)

  rule5_content : (c : ℕ) → c < count s contents → lacks s objects (field s contents c content_object) ≡ false
  unfolding breaks subjects subject_kind rule5
  rule5_content c l = simp or_false at (unbroken 5 contents c l)

  rule5_object : (o : ℕ) → o < count s objects
      → (has_pack s o && lacks s packs (pack_of s o) || list_lacks s tracks objects o track_list || list_lacks s objects objects o child_list || list_lacks s objects objects o complement_list) ≡ false
  unfolding breaks subjects subject_kind rule5
  rule5_object o l = simp or_false at (unbroken 5 objects o l)

  rule6_object : (o : ℕ) → o < count s objects → bad_object s o ≡ false
  unfolding breaks subjects subject_kind rule6
  rule6_object o l = simp or_false at (unbroken 6 objects o l)

  rule6_pack : (k : ℕ) → k < count s packs → bad_pack s k ≡ false
  unfolding breaks subjects subject_kind rule6
  rule6_pack k l = simp or_false at (unbroken 6 packs k l)

  rule6_set : (v : ℕ) → v < count s value_sets → bad_set s v ≡ false
  unfolding breaks subjects subject_kind rule6
  rule6_set v l = unbroken 6 value_sets v l

  rule7_objects : outside s objects_limit (count s objects) ≡ false
  unfolding breaks subjects subject_kind rule7
  rule7_objects = simp or_false at (unbroken 7 objects 0 (omega arith))

  rule7_programmes : outside s programmes_limit (count s programmes) ≡ false
  unfolding breaks subjects subject_kind rule7
  rule7_programmes = simp or_false at (unbroken 7 programmes 0 (omega arith))

  rule8_programme : (p : ℕ) → p < count s programmes
      → (outside s programme_contents_limit (number s programmes p content_list) || exceeds s programme_sets_limit (number s programmes p set_list) || exceeds s labels_limit (number s programmes p programme_labels)) ≡ false
  unfolding breaks subjects subject_kind rule8
  rule8_programme p l = simp or_false at (unbroken 8 programmes p l)

  rule10_pack : (k : ℕ) → k < count s packs → rule10 s packs k ≡ false
  unfolding breaks subjects subject_kind
  rule10_pack k l = unbroken 10 packs k l

  rule11_object : (o : ℕ) → o < count s objects → not (eqb (namings s o) 1) ≡ false
  unfolding breaks subjects subject_kind rule11
  rule11_object o l = simp or_false at (unbroken 11 objects o l)

  rule11_set : (v : ℕ) → v < count s value_sets → not (eqb (how_many (λ o. has_set s o v) (count s objects)) 1) ≡ false
  unfolding breaks subjects subject_kind rule11
  rule11_set v l = unbroken 11 value_sets v l

  rule13_object : (o : ℕ) → o < count s objects → rule13 s objects o ≡ false
  unfolding breaks subjects subject_kind
  rule13_object o l = unbroken 13 objects o l

  rule14_object : (o : ℕ) → o < count s objects → rule14 s objects o ≡ false
  unfolding breaks subjects subject_kind
  rule14_object o l = unbroken 14 objects o l

  rule15_object : (o : ℕ) → o < count s objects → rule15 s objects o ≡ false
  unfolding breaks subjects subject_kind
  rule15_object o l = unbroken 15 objects o l

  rule18_object : (o : ℕ) → o < count s objects → (object_leaves s o Gains || object_leaves s o Offsets) ≡ false
  unfolding breaks subjects subject_kind rule18
  rule18_object o l = simp or_false at (unbroken 18 objects o l)

  rule18_set : (v : ℕ) → v < count s value_sets → (set_leaves s (owner s v) v Gains || set_leaves s (owner s v) v Offsets) ≡ false
  unfolding breaks subjects subject_kind rule18
  rule18_set v l = unbroken 18 value_sets v l

  rule19_object : (o : ℕ) → o < count s objects → rule19 s objects o ≡ false
  unfolding breaks subjects subject_kind
  rule19_object o l = unbroken 19 objects o l

  rule21_programme : (p : ℕ) → p < count s programmes → rule21 s programmes p ≡ false
  unfolding breaks subjects subject_kind
  rule21_programme p l = unbroken 21 programmes p l

  rule2_header : rule2 s header 0 ≡ false
  unfolding breaks subjects subject_kind
  rule2_header = unbroken 2 header 0 (omega arith)

  rule24_header : exceeds s counted_limit (counted_tracks s) ≡ false
  unfolding breaks subjects subject_kind rule24
  rule24_header = unbroken 24 header 0 (omega arith)

  -- above level 0 a limit that is not exceeded holds
  not_exceeded : (column n : ℕ) → exceeds s column n ≡ false → (level s ≡ 0 → ⊥) → n ≤ limit (level s) column
  unfolding exceeds
  not_exceeded column n e h = ltb-false _ _ (and_second _ _ e (ap not (ne_eqb (level s) 0 h)))

  pack_index : (o : ℕ) → o < count s objects → has_pack s o ≡ true → pack_of s o < count s packs
  unfolding lacks
  pack_index o l h =
      leb-false _ _ (and_second (has_pack s o) (leb (count s packs) (pack_of s o))
      (or_none_4 (has_pack s o && leb (count s packs) (pack_of s o)) (list_lacks s tracks objects o track_list) (list_lacks s objects objects o child_list) (list_lacks s objects objects o complement_list) (rule5_object o l)).0 h)

  object_lists : (o : ℕ) → o < count s objects
      → (list_lacks s tracks objects o track_list ≡ false) × (list_lacks s objects objects o child_list ≡ false) × (list_lacks s objects objects o complement_list ≡ false)
  object_lists o l =
      let parts = or_none_4 (has_pack s o && lacks s packs (pack_of s o)) (list_lacks s tracks objects o track_list) (list_lacks s objects objects o child_list) (list_lacks s objects objects o complement_list) (rule5_object o l) in
      (parts.1, parts.2, parts.3)

  -- rule 13 in parts
  object_parts : (o : ℕ) → o < count s objects
      → (has_pack s o ≡ not (has_children s o)) × (any (λ i. not (has_objects_pack s (entry s objects o child_list i))) (number s objects o child_list) ≡ false)
  unfolding rule13
  object_parts o l =
      let parts = or_none (has_pack s o && has_children s o || not (has_pack s o) && not (has_children s o)) (any (λ i. not (has_objects_pack s (entry s objects o child_list i))) (number s objects o child_list)) (rule13_object o l) in
      (opposites (has_pack s o) (has_children s o) parts.0, parts.1)

  child_has_pack : (o i : ℕ) → o < count s objects → i < number s objects o child_list → has_pack s (entry s objects o child_list i) ≡ true
  unfolding has_objects_pack
  child_has_pack o i l m =
      (and_both (has_pack s (entry s objects o child_list i)) _
      (not-false _ (any_none (λ j. not (has_objects_pack s (entry s objects o child_list j))) (number s objects o child_list) (object_parts o l).1 i m))).0

  -- rule 14 in parts
  abbrev other_pack : ℕ → ℕ → Bool
  other_pack o i = not (eqb (field s tracks (track_at s o i) track_pack) (pack_of s o))

  abbrev not_once : ℕ → ℕ → Bool
  not_once o n = not (eqb (how_many (λ i. eqb (field s tracks (track_at s o i) track_ordinal) n) (number s objects o track_list)) 1)

  track_parts : (o : ℕ) → o < count s objects
      → (not (eqb (number s objects o track_list) (channels s o)) ≡ false) × (any (other_pack o) (number s objects o track_list) ≡ false) × (any (not_once o) (channels s o) ≡ false)
  unfolding rule14
  track_parts o l =
      or_none_3 (not (eqb (number s objects o track_list) (channels s o))) (any (other_pack o) (number s objects o track_list)) (any (not_once o) (channels s o)) (rule14_object o l)

  -- a pack has a channel: kind 3 has one, kind 1 some, and there is no other kind
  pack_channel : (k : ℕ) → k < count s packs → 1 ≤ field s packs k pack_channels
  unfolding bad_pack rule10 outside
  pack_channel k l =
      let kind : ℕ = field s packs k pack_kind in
      let n : ℕ = field s packs k pack_channels in
      let known : (eqb kind 1 || eqb kind 3) ≡ true = not-false _ (or_none (not (eqb kind 1 || eqb kind 3)) (ltb 1 (field s packs k pack_front)) (rule6_pack k l)).0 in
      let parts = or_none (eqb kind 3 && not (eqb n 1)) (eqb kind 1 && (ltb n 1 || exceeds s channels_limit n)) (rule10_pack k l) in
      ⊎_elim (λ e. let h : n ≡ 1 = eqb-true n 1 (not-false _ e) in omega arith)
      (λ e. ltb-false n 1 (or_none (ltb n 1) (exceeds s channels_limit n) e).0)
      (one_of (eqb kind 1) (eqb kind 3) (not (eqb n 1)) (ltb n 1 || exceeds s channels_limit n) known parts.0 parts.1)

  -- a value set's words by sort
  object_words : (o : ℕ) (t : Sort) → o < count s objects → bad_object_words s o t ≡ false
  unfolding bad_object
  object_words o Gains l = (or_none_3 (ltb 1 (field s objects o interact)) (bad_object_words s o Gains) (bad_object_words s o Offsets) (rule6_object o l)).1
  object_words o Offsets l = (or_none_3 (ltb 1 (field s objects o interact)) (bad_object_words s o Gains) (bad_object_words s o Offsets) (rule6_object o l)).2

  set_words : (v : ℕ) (t : Sort) → v < count s value_sets → bad_set_words s v t ≡ false
  unfolding bad_set
  set_words v Gains l = (or_none_4 (ltb 1 (field s value_sets v set_own)) (bad_set_words s v Gains) (bad_set_words s v Offsets) (eqb (field s value_sets v set_own) 0 && (set_range s v Gains || set_range s v Offsets)) (rule6_set v l)).1
  set_words v Offsets l = (or_none_4 (ltb 1 (field s value_sets v set_own)) (bad_set_words s v Gains) (bad_set_words s v Offsets) (eqb (field s value_sets v set_own) 0 && (set_range s v Gains || set_range s v Offsets)) (rule6_set v l)).2

  object_stays : (o : ℕ) (t : Sort) → o < count s objects → object_leaves s o t ≡ false
  object_stays o Gains l = (or_none (object_leaves s o Gains) (object_leaves s o Offsets) (rule18_object o l)).0
  object_stays o Offsets l = (or_none (object_leaves s o Gains) (object_leaves s o Offsets) (rule18_object o l)).1

  set_stays : (v : ℕ) (t : Sort) → v < count s value_sets → set_leaves s (owner s v) v t ≡ false
  set_stays v Gains l = (or_none (set_leaves s (owner s v) v Gains) (set_leaves s (owner s v) v Offsets) (rule18_set v l)).0
  set_stays v Offsets l = (or_none (set_leaves s (owner s v) v Gains) (set_leaves s (owner s v) v Offsets) (rule18_set v l)).1

  -- rule 19 in parts
  complement_parts : (o i : ℕ) → o < count s objects → i < number s objects o complement_list → bad_complement s (entry s objects o complement_list i) ≡ false
  unfolding rule19
  complement_parts o i l m = any_none (λ j. bad_complement s (entry s objects o complement_list j)) (number s objects o complement_list) (rule19_object o l) i m

  complement_good : (o i : ℕ) → o < count s objects → i < number s objects o complement_list
      → (not (top s (entry s objects o complement_list i)) ≡ false) × (leader s (entry s objects o complement_list i) ≡ false) × (ltb 1 (sum (λ l. times s objects l complement_list (entry s objects o complement_list i)) (count s objects)) ≡ false)
  unfolding bad_complement
  complement_good o i l m =
      let q : ℕ = entry s objects o complement_list i in
      or_none_3 (not (top s q)) (leader s q) (ltb 1 (sum (λ l. times s objects l complement_list q) (count s objects))) (complement_parts o i l m)

  leader_is_top : (o : ℕ) → o < count s objects → leader s o ≡ true → top s o ≡ true
  unfolding rule15
  leader_is_top o l h =
      (elim (top s o) as (λ t. top s o ≡ t → top s o ≡ true) [
        | true ↦ λ e. e
        | false ↦ λ e. absurd (true≢false (sym h ∙ first_of_7 (leader s o) (eqb (field s objects o interact) 1) (ltb 0 (number s objects o set_span)) (not (is_absent (field s objects o (object_value Gains)))) (not (is_absent (field s objects o (object_value Offsets)))) (object_range s o Gains) (object_range s o Offsets) (rw e at (rule15_object o l))))
      ]) refl

  group_part : (p l : ℕ) → p < count s programmes → l < count s objects → leader s l ≡ true
      → (included s p l ≡ 0) ⊎ ((included s p l ≡ 1) ⊎ (wholly_included s p l ≡ true))
  unfolding rule21
  group_part p l m n h =
      three (eqb (included s p l) 0) (eqb (included s p l) 1) (wholly_included s p l) refl refl refl
      (rw h at (any_none (λ j. leader s j && not (eqb (included s p j) 0) && not (eqb (included s p j) 1) && not (wholly_included s p j)) (count s objects) (rule21_programme p m) l n))
    where
      three : (a b c : Bool) → eqb (included s p l) 0 ≡ a → eqb (included s p l) 1 ≡ b → wholly_included s p l ≡ c
          → (true && not (eqb (included s p l) 0) && not (eqb (included s p l) 1) && not (wholly_included s p l)) ≡ false
          → (included s p l ≡ 0) ⊎ ((included s p l ≡ 1) ⊎ (wholly_included s p l ≡ true))
      three true b c u v w e = inl (eqb-true _ _ u)
      three false true c u v w e = inr (inl (eqb-true _ _ v))
      three false false true u v w e = inr (inr w)
      three false false false u v w e = absurd (true≢false (rw (u, v, w) at e))

  channel_there : (o : ℕ) → o < count s objects → has_pack s o ≡ true → 1 ≤ channels s o
  unfolding channels
  channel_there o l h =
      let none : has_children s o ≡ false = not-true _ (sym (object_parts o l).0 ∙ h) in
      rw none (pack_channel (pack_of s o) (pack_index o l h))

  set_effective : (v : ℕ) (t : Sort) → v < count s value_sets
      → leaves t (effective_value s (owner s v) v t) (effective_minimum s (owner s v) v t) (effective_maximum s (owner s v) v t) ≡ false
  unfolding set_leaves
  set_effective v t l =
      let o : ℕ = owner s v in
      (or_none (leaves t (effective_value s o v t) (effective_minimum s o v t) (effective_maximum s o v t))
      (not (is_absent (field s value_sets v (set_value t))) && leaves t (field s value_sets v (set_value t)) (field s objects o (object_minimum t)) (field s objects o (object_maximum t)))
      (set_stays v t l)).0

-- an accepted sheet has all that acceptance grants
pub accepted_sheet : (s : Sheet) (langs : List ℕ) → verdict s langs ≡ Accepted → AcceptedSheet s
unfolding outside rule2 bad_object_words bad_set_words object_leaves set_leaves
accepted_sheet s langs a =
    record {
      some_programme = ltb-false _ _ (or_none (ltb (count s programmes) 1) (exceeds s programmes_limit (count s programmes)) (rule7_programmes s langs a)).0;
      some_content = λ p l. ltb-false _ _ (or_none (ltb (number s programmes p content_list) 1) (exceeds s programme_contents_limit (number s programmes p content_list))
          (or_none_3 (ltb (number s programmes p content_list) 1 || exceeds s programme_contents_limit (number s programmes p content_list)) (exceeds s programme_sets_limit (number s programmes p set_list)) (exceeds s labels_limit (number s programmes p programme_labels)) (rule8_programme s langs a p l)).0).0;
      content_index = λ p i l m. in_section s langs a contents programmes p content_list i (or_none (list_lacks s contents programmes p content_list) (list_lacks s value_sets programmes p set_list) (rule5_programme s langs a p l)).0 m;
      set_index = λ p i l m. unfold named_set in in_section s langs a value_sets programmes p set_list i (or_none (list_lacks s contents programmes p content_list) (list_lacks s value_sets programmes p set_list) (rule5_programme s langs a p l)).1 m;
      object_index = λ c l. leb-false _ _ (unfold lacks in rule5_content s langs a c l);
      track_index = λ o i l m. unfold track_at in in_section s langs a tracks objects o track_list i (object_lists s langs a o l).0 m;
      child_index = λ o i l m. in_section s langs a objects objects o child_list i (object_lists s langs a o l).1 m;
      complement_index = λ o i l m. in_section s langs a objects objects o complement_list i (object_lists s langs a o l).2 m;
      named_once = λ o l. eqb-true _ _ (not-false _ (rule11_object s langs a o l));
      one_span = λ v l. eqb-true _ _ (not-false _ (rule11_set s langs a v l));
      pack_or_children = λ o l. (object_parts s langs a o l).0;
      child_pack = λ o i l m. child_has_pack s langs a o i l m;
      track_number = λ o l. eqb-true _ _ (not-false _ (track_parts s langs a o l).0);
      track_pack_lem = λ o i l m. eqb-true _ _ (not-false _ (any_none (other_pack s langs a o) (number s objects o track_list) (track_parts s langs a o l).1 i m));
      channel_once = λ o n l m. eqb-true _ _ (not-false _ (any_none (not_once s langs a o) (channels s o) (track_parts s langs a o l).2 n m));
      some_channel = λ o l h. channel_there s langs a o l h;
      leader_top = λ o l h. leader_is_top s langs a o l h;
      complement_top = λ o i l m. not-false _ (complement_good s langs a o i l m).0;
      complement_follows = λ o i l m. (complement_good s langs a o i l m).1;
      complement_once = λ o i l m. ltb-false _ _ (complement_good s langs a o i l m).2;
      object_value_lem = λ o t l. (legal_words t _ _ _ (object_words s langs a o t l)).0;
      object_range_lem = λ o t l. legal_range t _ _ _ (object_words s langs a o t l);
      object_within = λ o t l. stays t _ _ _ (object_stays s langs a o t l);
      set_value_lem = λ v t l. (legal_words t _ _ _ (set_words s langs a v t l)).0;
      set_range_lem = λ v t l. legal_range t _ _ _ (set_words s langs a v t l);
      set_within = λ v t l. stays t _ _ _ (set_effective s langs a v t l);
      group_included = λ p l m n h. group_part s langs a p l m n h;
      level_most = ltb-false _ _ (or_none (not (eqb (edition s) 1)) (ltb 2 (level s)) (rule2_header s langs a)).1;
      objects_most = λ h. not_exceeded s langs a objects_limit (count s objects) (or_none (ltb (count s objects) 1) (exceeds s objects_limit (count s objects)) (rule7_objects s langs a)).1 h;
      counted_most = λ h. not_exceeded s langs a counted_limit (counted_tracks s) (rule24_header s langs a) h;
    }
