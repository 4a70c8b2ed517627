-- What the tests of an object say of the rules. Assumes nothing.
use Prim.Native.Nat.{ℕ, zero, suc, ◌+◌, ◌<◌, ◌≤◌}
use mathlib.Core.Path.{◌≡◌, refl, sym, ap, ◌∙◌}
use mathlib.Core.Bool.{Bool, true, false, true≢false, not, cond, ◌&&◌, ◌||◌}
use native.Mathlib.Omega.{arith}
use native.Mathlib.Nat.{add-zero}
use lib.Dec.{eqb, leb, ltb}
use borrow.Author.Tests.{eqb-true, eqb-false, ltb-true, ltb-false, le-ltb, eq-eqb, ne_eqb, lt-ltb, not-false, not-true}
use Rattle.sheet.specs.Words.{Sheet}
use Rattle.sheet.specs.Layout.{count, offset, start, field, first, number, entry, reference}
use Rattle.sheet.specs.Fields.{objects, packs, tracks, references, value_sets, no_pack, track_list, child_list, complement_list, interact, object_offset, set_span, pack_channels, track_pack, track_ordinal, set_own}
use Rattle.values.specs.declared.Sort.TheVariants.{Gains, Offsets}
use Rattle.values.specs.Values.{is_absent}
use Rattle.profile.specs.Counting.{any, how_many}
use Rattle.profile.specs.Limits.{exceeds, children_limit, complements_limit, span_limit}
use Rattle.profile.specs.Relations.{leader, has_pack, pack_of, has_children, has_objects_pack, has_front_pack, channels, track_at, own_value, set_value, effective_value, effective_minimum, effective_maximum}
use Rattle.profile.specs.Rules.{beyond, lacks, list_lacks, bad_words, leaves, bad_complement, differs, bad_set, bad_set_words, set_range, set_leaves, bad_object, bad_object_words, object_range, object_leaves, rule4, rule5, rule8, rule11, rule13, rule14, rule15, rule16, rule17, rule18, rule19, rule20}
use Rattle.profile.proofs.BoolLaws.{or_false, or_none, or_none_3, or_none_4, and_both, and_second}
use Rattle.profile.proofs.CountingLaws.{any_none}
use Rattle.profile.proofs.SumLaws.{any_nowhere, how_many_eq}
use Rattle.lists.specs.steps.Entries.{entry_at, bad_child_at, out_of_order_at}
use Rattle.std.proofs.Math.Bool.{and-false, or_assoc}
use Rattle.std.specs.List.{list_any, range_with_len}
use Rattle.screen.specs.steps.Values.{values_at, none_present, own_leaves, value_leaves, set_words_broken, set_broken}
use Rattle.relations.specs.declared.sets.Values.{Values}
use Rattle.screen.specs.declared.ObjectValues.{ObjectValues}
use Rattle.screen.specs.steps.Objects.{object_lists_broken, object_sort, object_values, sort_broken, offsets_broken, values_broken, children_broken, tracks_broken, source_kept, complement_broken, complements_kept, sets_broken, is_plain, rest_kept, object_broken}

-- seven words from interact on, one after the other and as they are counted
pub seven_words : (p : ℕ → Bool) → list_any p (range_with_len interact 7) ≡ any (λ f. p (interact + f)) 7
unfolding any
seven_words p = simp (or_assoc, or_false)

-- two tests of each number below n
module _ (p q : ℕ → Bool) (n : ℕ) (e : any (λ i. p i || q i) n ≡ false) where
  pub any_left : any p n ≡ false
  any_left = any_nowhere p n (λ k l. (or_none (p k) (q k) (any_none (λ i. p i || q i) n e k l)).0)

  pub any_right : any q n ≡ false
  any_right = any_nowhere q n (λ k l. (or_none (p k) (q k) (any_none (λ i. p i || q i) n e k l)).1)

-- an or of seven that fails
pub or_none_7 : (a b c d e f g : Bool) → (a || b || c || d || e || f || g) ≡ false → (a ≡ false) × (b ≡ false) × (c ≡ false) × (d ≡ false) × (e ≡ false) × (f ≡ false) × (g ≡ false)
or_none_7 a b c d e f g h =
    let l = or_none_4 (a || b || c || d) e f g h in
    let m = or_none_4 a b c d l.0 in
    (m.0, m.1, m.2, m.3, l.1, l.2, l.3)

-- an or of eight
pub or_none_8 : (a b c d e f g h : Bool) → (a || b || c || d || e || f || g || h) ≡ false
    → (a ≡ false) × (b ≡ false) × (c ≡ false) × (d ≡ false) × (e ≡ false) × (f ≡ false) × (g ≡ false) × (h ≡ false)
or_none_8 a b c d e f g h q =
    let l = or_none (a || b || c || d || e || f || g) h q in
    let m = or_none_7 a b c d e f g l.0 in
    (m.0, m.1, m.2, m.3, m.4, m.5, m.6, l.1)

-- the lists and the span, one after the other
pub lists_in_turn : (s : Sheet) (o : ℕ) → ltb (count s references) (first s objects o track_list + number s objects o track_list) ≡ false → (ltb (count s references) (first s objects o child_list + number s objects o child_list) || exceeds s children_limit (number s objects o child_list)) ≡ false
    → (ltb (count s references) (first s objects o complement_list + number s objects o complement_list) || exceeds s complements_limit (number s objects o complement_list)) ≡ false → (ltb (count s value_sets) (first s objects o set_span + number s objects o set_span) || exceeds s span_limit (number s objects o set_span)) ≡ false → object_lists_broken s o ≡ false
unfolding object_lists_broken
lists_in_turn s o tracks children complements sets =
    let c = or_none (ltb (count s references) (first s objects o child_list + number s objects o child_list)) (exceeds s children_limit (number s objects o child_list)) children in
    let d = or_none (ltb (count s references) (first s objects o complement_list + number s objects o complement_list)) (exceeds s complements_limit (number s objects o complement_list)) complements in
    let e = or_none (ltb (count s value_sets) (first s objects o set_span + number s objects o set_span)) (exceeds s span_limit (number s objects o set_span)) sets in
    rw (tracks, c.0, c.1, d.0, d.1, e.0, e.1) refl

pub lists_kept : (s : Sheet) (o : ℕ) → object_lists_broken s o ≡ false → (rule4 s objects o ≡ false) × (rule8 s objects o ≡ false)
unfolding object_lists_broken rule4 beyond rule8
lists_kept s o e =
    let p = or_none_7
    (beyond s references objects o track_list)
    (beyond s references objects o child_list)
    (beyond s references objects o complement_list)
    (beyond s value_sets objects o set_span) _ _ _ e in
    (simp (p.0, p.1, p.2, p.3), simp (p.4, p.5, p.6))

pub values_kept : (s : Sheet) (o : ℕ) → values_broken (object_values s o) ≡ false
    → (bad_object s o ≡ false)
    × (rule17 s objects o ≡ false)
    × (rule18 s objects o ≡ false)
    × ((eqb (field s objects o interact) 0 && (object_range s o Gains || object_range s o Offsets)) ≡ false)
unfolding values_broken sort_broken own_leaves offsets_broken object_values values_at bad_object bad_object_words rule17 rule18 object_leaves own_value object_range field
values_kept s o e =
    let p = or_none_3 (ltb 1 (field s objects o interact)) (sort_broken Gains (object_values s o) (object_sort s Gains (start s objects o))) (offsets_broken (object_values s o)) e in
    let g = or_none_3 (bad_object_words s o Gains) (eqb (field s objects o interact) 0 && object_range s o Gains) (object_leaves s o Gains) p.1 in
    let f = or_none_4
    (bad_object_words s o Offsets)
    (eqb (field s objects o interact) 0 && object_range s o Offsets)
    (object_leaves s o Offsets)
    ((not (is_absent (field s objects o object_offset)) || object_range s o Offsets) && not (has_front_pack s o)) p.2 in
    (simp (p.0, g.0, f.0, or_false), simp (f.3, or_false), simp (g.2, f.2, or_false), neither (eqb (field s objects o interact) 0) (object_range s o Gains) (object_range s o Offsets) g.1 f.1)
  where
    neither : (a b c : Bool) → (a && b) ≡ false → (a && c) ≡ false → (a && (b || c)) ≡ false
    neither true b c h k = rw (h, k) refl
    neither false b c h k = refl

-- the object at a place of a list has the place's number: each number below n comes once
how_many_place : (m n : ℕ) → how_many (λ i. eqb i m) n ≡ cond (ltb m n) 1 0
unfolding how_many
how_many_place m zero = rw (le-ltb m 0 (omega arith)) refl
how_many_place m (suc n) =
    (elim (eqb n m) as (λ b. eqb n m ≡ b → how_many (λ i. eqb i m) n + cond (eqb n m) 1 0 ≡ cond (ltb m (suc n)) 1 0) [
      | true ↦ λ e. let h : n ≡ m = eqb-true n m e in rw (how_many_place m n, e, h, lt-ltb m (suc m) (omega arith), le-ltb m m (omega arith)) refl
      | false ↦ λ e. let h : (n ≡ m) → ⊥ = eqb-false n m e in rw (how_many_place m n, e, add-zero (cond (ltb m n) 1 0)) (ap (λ (b : Bool). cond b 1 0) (below m n h))
    ]) refl
  where
    below : (m n : ℕ) → ((n ≡ m) → ⊥) → ltb m n ≡ ltb m (suc n)
    below m n h =
        (elim (ltb m n) as (λ b. ltb m n ≡ b → b ≡ ltb m (suc n)) [
          | true ↦ λ e. let l : m < n = ltb-true m n e in sym (lt-ltb m (suc n) (omega arith))
          | false ↦ λ e. let l : n ≤ m = ltb-false m n e in sym (le-ltb m (suc n) (omega (arith, h)))
        ]) refl

-- an object without a pack
pub children_kept : (s : Sheet) (o : ℕ) → pack_of s o ≡ no_pack → children_broken s o ≡ false → source_kept s o
unfolding any children_broken has_pack has_children lacks list_lacks rule13 rule14 channels bad_child_at entry_at entry reference
children_kept s o e h =
    let p = or_none_3 (eqb (number s objects o child_list) 0) (not (eqb (number s objects o track_list) 0)) (any (bad_child_at s (offset s references) (first s objects o child_list) (count s objects)) (number s objects o child_list)) h in
    let none : number s objects o track_list ≡ 0 = eqb-true (number s objects o track_list) 0 (not-false (eqb (number s objects o track_list) 0) p.1) in
    let some : ltb 0 (number s objects o child_list) ≡ true = lt-ltb 0 (number s objects o child_list) (omega (arith, eqb-false (number s objects o child_list) 0 p.0)) in
    let lacking = any_left (λ i. leb (count s objects) (entry s objects o child_list i)) (λ i. not (has_objects_pack s (entry s objects o child_list i))) (number s objects o child_list) p.2 in
    let packless = any_right (λ i. leb (count s objects) (entry s objects o child_list i)) (λ i. not (has_objects_pack s (entry s objects o child_list i))) (number s objects o child_list) p.2 in
    (simp e, simp none, lacking, simp (e, some, packless), simp (some, none))

-- an object with a pack
module _ (s : Sheet) (o pack : ℕ) (named : pack ≡ pack_of s o) (some : (pack ≡ no_pack) → ⊥) (h : tracks_broken s o pack ≡ false) where
  parts : (ltb 0 (number s objects o child_list) ≡ false)
      × (leb (count s packs) pack ≡ false)
      × (not (eqb (number s objects o track_list) (field s packs pack pack_channels)) ≡ false)
      × (any (out_of_order_at s (offset s references) (first s objects o track_list) pack) (number s objects o track_list) ≡ false)
  unfolding tracks_broken
  parts =
      or_none_4 (ltb 0 (number s objects o child_list)) (leb (count s packs) pack) (not (eqb (number s objects o track_list) (field s packs pack pack_channels)))
      (any (out_of_order_at s (offset s references) (first s objects o track_list) pack) (number s objects o track_list)) h

  in_order : (i : ℕ) → i < number s objects o track_list
      → (leb (count s tracks) (track_at s o i) ≡ false) × (not (eqb (field s tracks (track_at s o i) track_pack) pack) ≡ false) × (not (eqb (field s tracks (track_at s o i) track_ordinal) i) ≡ false)
  unfolding out_of_order_at entry_at track_at entry reference
  in_order i l =
      or_none_3 (leb (count s tracks) (track_at s o i)) (not (eqb (field s tracks (track_at s o i) track_pack) pack)) (not (eqb (field s tracks (track_at s o i) track_ordinal) i))
      (any_none (out_of_order_at s (offset s references) (first s objects o track_list) pack) (number s objects o track_list) parts.3 i l)

  childless : number s objects o child_list ≡ 0
  childless = let l : number s objects o child_list ≤ 0 = ltb-false 0 (number s objects o child_list) parts.0 in omega (arith, l)

  each_once : (n : ℕ) → n < number s objects o track_list → not (eqb (how_many (λ i. eqb (field s tracks (track_at s o i) track_ordinal) n) (number s objects o track_list)) 1) ≡ false
  each_once n l =
      let e : how_many (λ i. eqb (field s tracks (track_at s o i) track_ordinal) n) (number s objects o track_list) ≡ 1 =
      how_many_eq (λ i. eqb (field s tracks (track_at s o i) track_ordinal) n) (λ i. eqb i n) (number s objects o track_list)
      (λ i h. ap (λ (x : ℕ). eqb x n) (eqb-true (field s tracks (track_at s o i) track_ordinal) i (not-false (eqb (field s tracks (track_at s o i) track_ordinal) i) (in_order i h).2)))
      ∙ (how_many_place n (number s objects o track_list) ∙ ap (λ (b : Bool). cond b 1 0) (lt-ltb n (number s objects o track_list) l)) in
      rw e refl

  all_channels : number s objects o track_list ≡ channels s o
  unfolding channels has_children
  all_channels =
      rw (parts.0, sym named) (eqb-true (number s objects o track_list) (field s packs pack pack_channels) (not-false (eqb (number s objects o track_list) (field s packs pack pack_channels)) parts.2))

  with_pack : has_pack s o ≡ true
  unfolding has_pack
  with_pack = rw (sym named, ne_eqb pack no_pack some) refl

  in_section : (i : ℕ) → i < number s objects o track_list → lacks s tracks (entry s objects o track_list i) ≡ false
  unfolding track_at lacks
  in_section i l = (in_order i l).0

  rule14_kept : rule14 s objects o ≡ false
  unfolding rule14
  rule14_kept =
      rw (
        eq-eqb (number s objects o track_list) (channels s o) all_channels,
        any_nowhere (λ i. not (eqb (field s tracks (track_at s o i) track_pack) (pack_of s o))) (number s objects o track_list) (λ i l. rw (sym named) (in_order i l).1),
        any_nowhere (λ n. not (eqb (how_many (λ i. eqb (field s tracks (track_at s o i) track_ordinal) n) (number s objects o track_list)) 1)) (channels s o) (λ n l. each_once n (omega (arith, l, all_channels))),
      ) refl

  pub tracks_kept : source_kept s o
  unfolding any has_children lacks list_lacks rule13
  tracks_kept = (
    rw (with_pack, sym named) parts.1,
    any_nowhere (λ i. lacks s tracks (entry s objects o track_list i)) (number s objects o track_list) in_section,
    simp childless,
    simp (with_pack, childless),
    rule14_kept,
  )

-- an object without complements
pub no_complements : (s : Sheet) (o : ℕ) → number s objects o complement_list ≡ 0 → complements_kept s o
unfolding any list_lacks rule19 rule20
no_complements s o e = (simp e, simp e, simp e)

-- three words that are absent
pub all_absent : (v : Values) → none_present v ≡ true → (is_absent v.value ≡ true) × (is_absent v.minimum ≡ true) × (is_absent v.maximum ≡ true)
all_absent v e =
    let p = and_both (is_absent v.value) (not (not (is_absent v.minimum) || not (is_absent v.maximum))) e in
    let q = or_none (not (is_absent v.minimum)) (not (is_absent v.maximum)) (not-true (not (is_absent v.minimum) || not (is_absent v.maximum)) p.1) in
    (p.0, not-false (is_absent v.minimum) q.0, not-false (is_absent v.maximum) q.1)

-- a plain object
pub plain_kept : (s : Sheet) (o : ℕ) → is_plain s o ≡ true → rest_kept s o
unfolding any is_plain sets_broken leader rule15 values_broken sort_broken own_leaves offsets_broken object_values values_at bad_words leaves object_range field
plain_kept s o e =
    let offset = and_both _ (none_present (object_sort s Offsets (start s objects o))) e in
    let gain = and_both _ (none_present (object_sort s Gains (start s objects o))) offset.0 in
    let still = and_both _ (eqb (field s objects o interact) 0) gain.0 in
    let none = and_both (eqb (number s objects o complement_list) 0) (eqb (number s objects o set_span) 0) still.0 in
    let complements : number s objects o complement_list ≡ 0 = eqb-true (number s objects o complement_list) 0 none.0 in
    let sets : number s objects o set_span ≡ 0 = eqb-true (number s objects o set_span) 0 none.1 in
    let off : field s objects o interact ≡ 0 = eqb-true (field s objects o interact) 0 still.1 in
    let g = all_absent (object_sort s Gains (start s objects o)) gain.1 in
    let f = all_absent (object_sort s Offsets (start s objects o)) offset.1 in (
      simp (off, g.0, g.1, g.2, f.0, f.1, f.2),
      simp sets,
      no_complements s o complements,
      simp (complements, sets, off, g.0, g.1, g.2, f.0, f.1, f.2, and-false),
    )

-- complements that pass
pub complements_kept_lem : (s : Sheet) (o : ℕ) → any (λ i. complement_broken s o (entry s objects o complement_list i)) (number s objects o complement_list) ≡ false → complements_kept s o
unfolding complement_broken list_lacks rule19 rule20
complements_kept_lem s o e =
    let first_two = any_left (λ i. lacks s objects (entry s objects o complement_list i) || bad_complement s (entry s objects o complement_list i)) (λ i. differs s o (entry s objects o complement_list i)) (number s objects o complement_list) e in (
      any_left (λ i. lacks s objects (entry s objects o complement_list i)) (λ i. bad_complement s (entry s objects o complement_list i)) (number s objects o complement_list) first_two,
      any_right (λ i. lacks s objects (entry s objects o complement_list i)) (λ i. bad_complement s (entry s objects o complement_list i)) (number s objects o complement_list) first_two,
      any_right (λ i. lacks s objects (entry s objects o complement_list i) || bad_complement s (entry s objects o complement_list i)) (λ i. differs s o (entry s objects o complement_list i)) (number s objects o complement_list) e,
    )

-- a set of the object, as it is tested
sets : (s : Sheet) (o : ℕ) → sets_broken s o ≡ false → any (λ i. set_broken s (object_values s o) (start s value_sets (first s objects o set_span + i))) (number s objects o set_span) ≡ false
unfolding sets_broken
sets s o e = e

-- a set that passes, as a set of object o
pub set_kept : (s : Sheet) (o v : ℕ) → set_broken s (object_values s o) (start s value_sets v) ≡ false
    → (bad_set s v ≡ false)
    × ((eqb (field s objects o interact) 0 && eqb (field s value_sets v set_own) 1) ≡ false)
    × (((not (is_absent (field s value_sets v (set_value Offsets))) || set_range s v Offsets) && not (has_front_pack s o)) ≡ false)
    × (set_leaves s o v Gains ≡ false)
    × (set_leaves s o v Offsets ≡ false)
unfolding set_broken set_words_broken object_values values_at value_leaves bad_set bad_set_words set_range set_leaves effective_value effective_minimum effective_maximum own_value field
set_kept s o v e =
    let p = or_none_8
    (ltb 1 (field s value_sets v set_own))
    (bad_set_words s v Gains)
    (bad_set_words s v Offsets)
    (eqb (field s value_sets v set_own) 0 && (set_range s v Gains || set_range s v Offsets))
    (eqb (field s objects o interact) 0 && eqb (field s value_sets v set_own) 1)
    ((not (is_absent (field s value_sets v (set_value Offsets))) || set_range s v Offsets) && not (has_front_pack s o))
    (set_leaves s o v Gains)
    (set_leaves s o v Offsets) e in
    (simp (p.0, p.1, p.2, p.3), p.4, p.5, p.6, p.7)

own_set_lem : (s : Sheet) (o i : ℕ) → set_broken s (object_values s o) (start s value_sets (first s objects o set_span + i)) ≡ false
    → (eqb (field s objects o interact) 0 && eqb (field s value_sets (first s objects o set_span + i) set_own) 1) ≡ false
own_set_lem s o i e = (set_kept s o (first s objects o set_span + i) e).1

-- rule 16: the object's own ranges, and its sets
pub own_kept : (s : Sheet) (o : ℕ) → (eqb (field s objects o interact) 0 && (object_range s o Gains || object_range s o Offsets)) ≡ false → sets_broken s o ≡ false → rule16 s objects o ≡ false
unfolding rule16
own_kept s o e h =
    (elim (eqb (field s objects o interact) 0) as (λ b. eqb (field s objects o interact) 0 ≡ b → rule16 s objects o ≡ false) [
      | true ↦ λ t. rw (t, and_second (eqb (field s objects o interact) 0) (object_range s o Gains || object_range s o Offsets) e t, any_nowhere (λ i. eqb (field s value_sets (first s objects o set_span + i) set_own) 1) (number s objects o set_span) (λ i l. and_second (eqb (field s objects o interact) 0) (eqb (field s value_sets (first s objects o set_span + i) set_own) 1) (own_set_lem s o i (any_none (λ i. set_broken s (object_values s o) (start s value_sets (first s objects o set_span + i))) (number s objects o set_span) (sets s o h) i l)) t)) refl
      | false ↦ λ t. rw t refl
    ]) refl

rule5_kept : (s : Sheet) (o : ℕ) → source_kept s o → complements_kept s o → rule5 s objects o ≡ false
unfolding rule5
rule5_kept s o source others = simp (source.0, source.1, source.2, others.0, or_false)

pub object_kept : (s : Sheet) (o : ℕ) → object_lists_broken s o ≡ false → source_kept s o → rest_kept s o → rule11 s objects o ≡ false → object_broken s o ≡ false
unfolding object_broken
object_kept s o lists source rest once =
    let l = lists_kept s o lists in
    let v = values_kept s o rest.0 in
    let others = rest.2 in
    rw (l.0, rule5_kept s o source others, v.0, l.1, once, source.3, source.4, rest.3, own_kept s o v.3 rest.1, v.1, v.2, others.1, others.2, rest.1) refl

-- no offset and no range of one
pub no_offset : (v : ObjectValues) → none_present v.offsets ≡ true → offsets_broken v ≡ false
unfolding offsets_broken sort_broken own_leaves bad_words leaves
no_offset v e = let p = all_absent v.offsets e in simp (p.0, p.1, p.2, and-false)

-- an offset or a range of one: not both are absent
pub some_offset : (a b : Bool) → (a && not b) ≡ false → (not a || b) ≡ true
some_offset true true e = refl
some_offset true false e = absurd (true≢false e)
some_offset false b e = refl
