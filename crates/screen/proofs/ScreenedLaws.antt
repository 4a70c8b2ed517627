-- A sheet that passes the screening is accepted. Assumes nothing.
use Prim.Native.Nat.{ℕ, ◌+◌, ◌-◌, ◌<◌, ◌≤◌}
use mathlib.Core.Path.{◌≡◌, refl, ◌∙◌}
use mathlib.Core.List.{List}
use mathlib.Core.Bool.{Bool, true, false, ◌||◌}
use native.Mathlib.Omega.{arith}
use lib.Dec.{eqb, leb, ltb}
use borrow.Author.Tests.{eqb-true, ltb-true, leb-true, not-false}
use Rattle.std.specs.List.{list_any, range_with_len}
use Rattle.sheet.specs.Words.{Sheet}
use Rattle.sheet.specs.Layout.{count, start, first, number}
use Rattle.sheet.specs.Fields.{programmes, contents, objects, packs, tracks, value_sets, content_list, set_span}
use Rattle.profile.specs.Counting.{any, how_many, lowest}
use Rattle.profile.specs.Languages.{is_rising}
use Rattle.profile.specs.Relations.{has_set, owner}
use Rattle.profile.specs.Rules.{bad_object, bad_pack, rule1, rule2, rule3, rule4, rule5, rule6, rule7, rule8, rule9, rule10, rule11, rule12, rule13, rule14, rule15, rule16, rule17, rule18, rule19, rule20, rule21, rule22, rule23, rule24, rule33, repeats}
use Rattle.profile.specs.Verdict.{verdict, rules, rule_count, rule_at, number_at, breaks, subjects, subject_kind, rule_broken}
use Rattle.profile.specs.declared.Verdict.TheVariants.{Accepted}
use Rattle.profile.proofs.BoolLaws.{or_none, or_none_4, and_both}
use Rattle.profile.proofs.CountingLaws.{any_none, any_how_many, finds, lowest_holds}
use Rattle.profile.proofs.SumLaws.{any_nowhere}
use Rattle.profile.proofs.GroupLaws.{any_witness}
use Rattle.profile.proofs.VerdictLaws.{kept_accepted, rule_kept}
use Rattle.grouping.specs.steps.Groups.{GroupsGround, ProgrammesKept}
use Rattle.screen.specs.steps.Values.{set_broken}
use Rattle.screen.specs.steps.Objects.{object_broken, object_values, sets_broken}
use Rattle.lists.specs.steps.Speech.{content_broken, programme_broken}
use Rattle.screen.specs.steps.Screened.{header_broken, RecordsKept}
use Rattle.screen.proofs.ObjectLaws.{or_none_7, or_none_8, set_kept}

-- an or of five that fails
or_none_5 : (a b c d e : Bool) → (a || b || c || d || e) ≡ false → (a ≡ false) × (b ≡ false) × (c ≡ false) × (d ≡ false) × (e ≡ false)
or_none_5 a b c d e h = let l = or_none (a || b || c || d) e h in let m = or_none_4 a b c d l.0 in (m.0, m.1, m.2, m.3, l.1)

module _ (s : Sheet) (langs : List ℕ) (rises : is_rising langs ≡ true) (header : header_broken s ≡ false) (records : RecordsKept s langs)
    (set_once : (v : ℕ) → v < count s value_sets → rule11 s value_sets v ≡ false) where
  programme_at : (k : ℕ) → k < count s programmes
      → (rule4 s programmes k ≡ false) × (rule5 s programmes k ≡ false) × (rule6 s langs programmes k ≡ false) × (rule8 s programmes k ≡ false) × (rule9 s programmes k ≡ false)
  unfolding programme_broken
  programme_at k l = or_none_5 (rule4 s programmes k) (rule5 s programmes k) (rule6 s langs programmes k) (rule8 s programmes k) (rule9 s programmes k) (any_none (programme_broken s langs) (count s programmes) records.programmes_kept k l)

  content_at : (k : ℕ) → k < count s contents
      → ((rule4 s contents k ≡ false) × (rule5 s contents k ≡ false) × (rule6 s langs contents k ≡ false) × (rule8 s contents k ≡ false) × (rule9 s contents k ≡ false)) × (rule12 s contents k ≡ false)
  unfolding content_broken
  content_at k l =
      let p = or_none (content_broken s langs k) (rule12 s contents k) (any_none (λ i. content_broken s langs i || rule12 s contents i) (count s contents) records.contents_kept k l) in
      (or_none_5 (rule4 s contents k) (rule5 s contents k) (rule6 s langs contents k) (rule8 s contents k) (rule9 s contents k) p.0, p.1)

  object_at_lem : (o : ℕ) → o < count s objects → object_broken s o ≡ false
  object_at_lem o l = any_none (object_broken s) (count s objects) records.objects_kept o l

  pack_at_lem : (k : ℕ) → k < count s packs → (bad_pack s k ≡ false) × (rule10 s packs k ≡ false)
  pack_at_lem k l = or_none (bad_pack s k) (rule10 s packs k) (any_none (λ i. bad_pack s i || rule10 s packs i) (count s packs) records.packs_kept k l)

  track_at_lem : (k : ℕ) → k < count s tracks → rule5 s tracks k ≡ false
  track_at_lem k l = any_none (rule5 s tracks) (count s tracks) records.tracks_kept k l

  object_parts : (o : ℕ) → o < count s objects
      → (rule4 s objects o ≡ false) × (rule5 s objects o ≡ false) × (bad_object s o ≡ false) × (rule8 s objects o ≡ false) × (rule11 s objects o ≡ false) × (rule13 s objects o ≡ false) × (rule14 s objects o ≡ false) × (rule15 s objects o ≡ false) × (rule16 s objects o ≡ false) × (rule17 s objects o ≡ false) × (rule18 s objects o ≡ false) × (rule19 s objects o ≡ false) × (rule20 s objects o ≡ false) × (sets_broken s o ≡ false)
  unfolding object_broken
  object_parts o l =
      let p = or_none_8 (rule4 s objects o || rule5 s objects o || bad_object s o || rule8 s objects o || rule11 s objects o || rule13 s objects o || rule14 s objects o) (rule15 s objects o) (rule16 s objects o) (rule17 s objects o) (rule18 s objects o) (rule19 s objects o) (rule20 s objects o) (sets_broken s o) (object_at_lem o l) in
      let q = or_none_7 (rule4 s objects o) (rule5 s objects o) (bad_object s o) (rule8 s objects o) (rule11 s objects o) (rule13 s objects o) (rule14 s objects o) p.0 in
      (q.0, q.1, q.2, q.3, q.4, q.5, q.6, p.1, p.2, p.3, p.4, p.5, p.6, p.7)

  -- the object whose set v is
  has_owner : (v : ℕ) → v < count s value_sets → (owner s v < count s objects) × (has_set s (owner s v) v ≡ true)
  unfolding rule11 owner
  has_owner v l =
      let once : how_many (λ o. has_set s o v) (count s objects) ≡ 1 = eqb-true (how_many (λ o. has_set s o v) (count s objects)) 1 (not-false (eqb (how_many (λ o. has_set s o v) (count s objects)) 1) (set_once v l)) in
      let some : any (λ o. has_set s o v) (count s objects) ≡ true = any_how_many (λ o. has_set s o v) (count s objects) ∙ rw once refl in
      let w = any_witness (λ o. has_set s o v) (count s objects) some in
      let f : lowest (λ o. has_set s o v) (count s objects) < count s objects = ltb-true (lowest (λ o. has_set s o v) (count s objects)) (count s objects) (finds (λ o. has_set s o v) (count s objects) w.0 w.1 w.2) in
      (f, lowest_holds (λ o. has_set s o v) (count s objects) f)

  set_of_owner : (v : ℕ) → v < count s value_sets → set_broken s (object_values s (owner s v)) (start s value_sets v) ≡ false
  unfolding has_set sets_broken
  set_of_owner v l =
      let h = has_owner v l in
      let b = and_both (leb (first s objects (owner s v) set_span) v) (ltb v (first s objects (owner s v) set_span + number s objects (owner s v) set_span)) h.1 in
      let low : first s objects (owner s v) set_span ≤ v = leb-true (first s objects (owner s v) set_span) v b.0 in
      let high : v < first s objects (owner s v) set_span + number s objects (owner s v) set_span = ltb-true v (first s objects (owner s v) set_span + number s objects (owner s v) set_span) b.1 in
      let e : first s objects (owner s v) set_span + (v - first s objects (owner s v) set_span) ≡ v = omega (arith, low) in
      rw e at (any_none (λ i. set_broken s (object_values s (owner s v)) (start s value_sets (first s objects (owner s v) set_span + i))) (number s objects (owner s v) set_span) (object_parts (owner s v) h.0).13 (v - first s objects (owner s v) set_span) (omega (arith, low, high)))

  set_at : (v : ℕ) → v < count s value_sets → (rule6 s langs value_sets v ≡ false) × (rule17 s value_sets v ≡ false) × (rule18 s value_sets v ≡ false)
  unfolding rule6 rule17 rule18
  set_at v l = let p = set_kept s (owner s v) v (set_of_owner v l) in (simp p.0, simp p.2, simp (p.3, p.4))

  -- rule 6 of an object and of a pack
  object_rule6 : (o : ℕ) → o < count s objects → rule6 s langs objects o ≡ false
  unfolding rule6
  object_rule6 o l = simp (object_parts o l).2

  pack_rule6 : (k : ℕ) → k < count s packs → rule6 s langs packs k ≡ false
  unfolding rule6
  pack_rule6 k l = simp (pack_at_lem k l).0

  header_parts : (rule1 s 0 0 ≡ false) × (rule2 s 0 0 ≡ false) × (list_any (λ section. rule3 s section 0) (range_with_len 1 7) ≡ false) × (list_any (λ section. rule7 s section 0) (range_with_len 1 5) ≡ false)
  unfolding header_broken
  header_parts = or_none_4 (rule1 s 0 0) (rule2 s 0 0) (list_any (λ section. rule3 s section 0) (range_with_len 1 7)) (list_any (λ section. rule7 s section 0) (range_with_len 1 5)) header

  -- a rule is kept at all its places
  abbrev kept : ℕ → Type 0
  kept rule = rule_broken s langs rule ≡ false

  kept_33 : kept 33
  unfolding any breaks subjects subject_kind rule33
  kept_33 = rule_kept s langs 33 (rw rises refl)

  kept_1 : kept 1
  unfolding any breaks subjects subject_kind
  kept_1 = rule_kept s langs 1 (rw header_parts.0 refl)

  kept_2 : kept 2
  unfolding any breaks subjects subject_kind
  kept_2 = rule_kept s langs 2 (rw header_parts.1 refl)

  kept_3 : kept 3
  unfolding any breaks subjects subject_kind
  kept_3 = rule_kept s langs 3 (let sections = header_parts.2 in grind arith)

  kept_4 : kept 4
  unfolding any breaks subjects subject_kind
  kept_4 = rule_kept s langs 4 (rw (any_nowhere (rule4 s programmes) (count s programmes) (λ k l. (programme_at k l).0), any_nowhere (rule4 s contents) (count s contents) (λ k l. (content_at k l).0.0), any_nowhere (rule4 s objects) (count s objects) (λ k l. (object_parts k l).0)) refl)

  kept_5 : kept 5
  unfolding any breaks subjects subject_kind
  kept_5 = rule_kept s langs 5 (rw (any_nowhere (rule5 s programmes) (count s programmes) (λ k l. (programme_at k l).1), any_nowhere (rule5 s contents) (count s contents) (λ k l. (content_at k l).0.1), any_nowhere (rule5 s objects) (count s objects) (λ k l. (object_parts k l).1), any_nowhere (rule5 s tracks) (count s tracks) (λ k l. track_at_lem k l)) refl)

  kept_6 : kept 6
  unfolding any breaks subjects subject_kind
  kept_6 = rule_kept s langs 6 (rw (any_nowhere (rule6 s langs programmes) (count s programmes) (λ k l. (programme_at k l).2), any_nowhere (rule6 s langs contents) (count s contents) (λ k l. (content_at k l).0.2), any_nowhere (rule6 s langs objects) (count s objects) object_rule6, any_nowhere (rule6 s langs packs) (count s packs) pack_rule6, any_nowhere (rule6 s langs value_sets) (count s value_sets) (λ k l. (set_at k l).0)) refl)

  kept_7 : kept 7
  unfolding any breaks subjects subject_kind
  kept_7 = rule_kept s langs 7 (let sections = header_parts.3 in grind arith)

  kept_8 : kept 8
  unfolding any breaks subjects subject_kind
  kept_8 = rule_kept s langs 8 (rw (any_nowhere (rule8 s programmes) (count s programmes) (λ k l. (programme_at k l).3), any_nowhere (rule8 s contents) (count s contents) (λ k l. (content_at k l).0.3), any_nowhere (rule8 s objects) (count s objects) (λ k l. (object_parts k l).3)) refl)

  kept_9 : kept 9
  unfolding any breaks subjects subject_kind
  kept_9 = rule_kept s langs 9 (rw (any_nowhere (rule9 s programmes) (count s programmes) (λ k l. (programme_at k l).4), any_nowhere (rule9 s contents) (count s contents) (λ k l. (content_at k l).0.4)) refl)

  kept_10 : kept 10
  unfolding any breaks subjects subject_kind
  kept_10 = rule_kept s langs 10 (rw (any_nowhere (rule10 s packs) (count s packs) (λ k l. (pack_at_lem k l).1)) refl)

  kept_11 : kept 11
  unfolding any breaks subjects subject_kind
  kept_11 = rule_kept s langs 11 (rw (any_nowhere (rule11 s objects) (count s objects) (λ k l. (object_parts k l).4), any_nowhere (rule11 s value_sets) (count s value_sets) (λ k l. set_once k l)) refl)

  kept_13 : kept 13
  unfolding any breaks subjects subject_kind
  kept_13 = rule_kept s langs 13 (rw (any_nowhere (rule13 s objects) (count s objects) (λ k l. (object_parts k l).5)) refl)

  kept_14 : kept 14
  unfolding any breaks subjects subject_kind
  kept_14 = rule_kept s langs 14 (rw (any_nowhere (rule14 s objects) (count s objects) (λ k l. (object_parts k l).6)) refl)

  kept_15 : kept 15
  unfolding any breaks subjects subject_kind
  kept_15 = rule_kept s langs 15 (rw (any_nowhere (rule15 s objects) (count s objects) (λ k l. (object_parts k l).7)) refl)

  kept_16 : kept 16
  unfolding any breaks subjects subject_kind
  kept_16 = rule_kept s langs 16 (rw (any_nowhere (rule16 s objects) (count s objects) (λ k l. (object_parts k l).8)) refl)

  kept_17 : kept 17
  unfolding any breaks subjects subject_kind
  kept_17 = rule_kept s langs 17 (rw (any_nowhere (rule17 s objects) (count s objects) (λ k l. (object_parts k l).9), any_nowhere (rule17 s value_sets) (count s value_sets) (λ k l. (set_at k l).1)) refl)

  kept_18 : kept 18
  unfolding any breaks subjects subject_kind
  kept_18 = rule_kept s langs 18 (rw (any_nowhere (rule18 s objects) (count s objects) (λ k l. (object_parts k l).10), any_nowhere (rule18 s value_sets) (count s value_sets) (λ k l. (set_at k l).2)) refl)

  kept_19 : kept 19
  unfolding any breaks subjects subject_kind
  kept_19 = rule_kept s langs 19 (rw (any_nowhere (rule19 s objects) (count s objects) (λ k l. (object_parts k l).11)) refl)

  kept_20 : kept 20
  unfolding any breaks subjects subject_kind
  kept_20 = rule_kept s langs 20 (rw (any_nowhere (rule20 s objects) (count s objects) (λ k l. (object_parts k l).12)) refl)

  module _ (once : (p : ℕ) → p < count s programmes → repeats s programmes p content_list ≡ false)
      (whole : any (rule21 s programmes) (count s programmes) ≡ false) (alike : any (rule22 s programmes) (count s programmes) ≡ false)
      (groups : rule23 s 0 0 ≡ false) (tracks : rule24 s 0 0 ≡ false) where
    content_once : (p : ℕ) → p < count s programmes → rule12 s programmes p ≡ false
    unfolding rule12
    content_once p l = simp (once p l)

    kept_12 : kept 12
    unfolding any breaks subjects subject_kind
    kept_12 = rule_kept s langs 12 (rw (any_nowhere (rule12 s programmes) (count s programmes) content_once, any_nowhere (rule12 s contents) (count s contents) (λ k l. (content_at k l).1)) refl)

    kept_21 : kept 21
    unfolding any breaks subjects subject_kind
    kept_21 = rule_kept s langs 21 (rw whole refl)

    kept_22 : kept 22
    unfolding any breaks subjects subject_kind
    kept_22 = rule_kept s langs 22 (rw alike refl)

    kept_23 : kept 23
    unfolding any breaks subjects subject_kind
    kept_23 = rule_kept s langs 23 (rw groups refl)

    kept_24 : kept 24
    unfolding any breaks subjects subject_kind
    kept_24 = rule_kept s langs 24 (rw tracks refl)

    screened_accepted : verdict s langs ≡ Accepted
    unfolding any rules rule_count rule_at number_at
    screened_accepted =
        kept_accepted s langs
        (rw (kept_33, kept_1, kept_2, kept_3, kept_4, kept_5, kept_6, kept_7, kept_8, kept_9, kept_10, kept_11, kept_12, kept_13, kept_14, kept_15, kept_16, kept_17, kept_18, kept_19, kept_20, kept_21, kept_22, kept_23, kept_24) refl)

  -- what the pass over the programmes rests on
  ground : GroupsGround s
  ground = (
    any_nowhere (rule11 s value_sets) (count s value_sets) set_once,
    any_nowhere (rule19 s objects) (count s objects) (λ k l. (object_parts k l).11),
  )

  pub passed : (GroupsGround s → ProgrammesKept s) → rule23 s 0 0 ≡ false → rule24 s 0 0 ≡ false → verdict s langs ≡ Accepted
  passed programmes_kept groups tracks =
      let p = programmes_kept ground in
      screened_accepted (λ k l. (p k l).0) (any_nowhere (rule21 s programmes) (count s programmes) (λ k l. (p k l).1)) (any_nowhere (rule22 s programmes) (count s programmes) (λ k l. (p k l).2 refl)) groups tracks
