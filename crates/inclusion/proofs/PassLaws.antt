-- What the steps of the pass leave in the tables. Assumes nothing.
use Prim.Native.Nat.{ℕ, zero, suc, ◌+◌, ◌-◌, ◌*◌, ◌/◌, ◌<◌, ◌≤◌}
use mathlib.Core.Path.{◌≡◌, refl, sym, ap, ap₂, subst, ◌∙◌}
use mathlib.Core.Bool.{Bool, true, false, true≢false, cond, not, ◌&&◌, ◌||◌}
use mathlib.Core.List.{List, [], ◌∷◌}
use mathlib.Core.Logic.{◌⊎◌, ⊎_elim}
use native.Mathlib.Omega.{arith}
use native.Mathlib.Nat.{zero-add, le_of_suc-le-suc}
use native.Mathlib.Numerals.{add-one}
use borrow.Author.Count.{below_more}
use borrow.Author.Tests.{eqb-true, eqb-false, eq-eqb, ne_eqb, le-leb, ltb-true, ltb-false, lt-ltb}
use lib.Dec.{eqb, leb, ltb}
use lib.ListN.{length, get_or, set, length-set}
use Rattle.std.specs.Prelude.{Some, None, slice_range}
use Rattle.std.specs.Option.{unwrap_or}
use Rattle.sheet.specs.Words.{Sheet, sheet_of, word}
use Rattle.sheet.specs.Layout.{count, offset, start, record_words, field, number, reference, entry}
use Rattle.sheet.specs.Fields.{programmes, objects, references, value_sets, content_list, set_list, complement_list, set_gain}
use Rattle.sheet.specs.declared.spans.Entries.{Entries}
use Rattle.sheet.proofs.WordLaws.{at as words_at}
use Rattle.profile.specs.Counting.{any, how_many}
use Rattle.profile.specs.Relations.{member, members, named_set, owner}
use Rattle.profile.specs.Rules.{owner_at, sets_differ}
use Rattle.profile.proofs.BoolLaws.{or_none, or_true}
use Rattle.profile.proofs.CountingLaws.{any_none}
use Rattle.profile.proofs.GroupLaws.{any_witness, member_zero}
use Rattle.profile.proofs.SetLaws.{same_sets, sets_own}
use Rattle.profile.proofs.SumLaws.{how_many_shift}
use Rattle.tables.specs.declared.Naming.TheVariants.{SetSpans}
use Rattle.tables.specs.steps.Marks.{Standing, first_by}
use Rattle.tables.specs.steps.Right.{Owners, told}
use Rattle.tables.proofs.MarkLaws.{set_standing}
use Rattle.tables.proofs.TableLaws.{owner_told, part_place}
use Rattle.inclusion.proofs.CountLaws.{two_counted}
use Rattle.inclusion.specs.steps.Entering.{SetsNotedTo, Changed, Noted, object_at, object_from, Begins}
use Rattle.inclusion.specs.declared.SectionOffsets.{SectionOffsets}
use Rattle.inclusion.specs.steps.Alike.{representative}
use Rattle.inclusion.specs.steps.Groups.{ListKept, ListsComplements, many_listed, sets_listed, GroupKept, PairKept, group_whole, many_in, sets_in}

-- one place is written
pub written : (t : List ℕ) (y v : ℕ) → Standing (λ z. cond (eqb y z) v (get_or t z 0)) (set t y v)
written t y v x l = set_standing t y v (λ z. cond (eqb y z) v (get_or t z 0)) (λ z k. refl) x (rw (length-set t y v) at l)

-- one place more has b
marked_more : (f : ℕ → ℕ) (b : ℕ) (t₀ t t' : List ℕ) (n y : ℕ) → y ≡ f n → length t' ≡ length t
    → Standing (λ x. cond (any (λ i. eqb (f i) x) n) b (get_or t₀ x 0)) t → Standing (λ z. cond (eqb y z) b (get_or t z 0)) t'
    → Standing (λ x. cond (any (λ i. eqb (f i) x) (n + 1)) b (get_or t₀ x 0)) t'
unfolding any
marked_more f b t₀ t t' n y e long before now x l =
    now x l
    ∙ ap (λ (c : ℕ). cond (eqb y x) b c) (before x (rw long at l))
    ∙ ap (λ (w : ℕ). cond (eqb w x) b (cond (any (λ i. eqb (f i) x) n) b (get_or t₀ x 0))) e
    ∙ either (any (λ i. eqb (f i) x) n) (eqb (f n) x) (get_or t₀ x 0)
    ∙ ap (λ (m : ℕ). cond (any (λ i. eqb (f i) x) m) b (get_or t₀ x 0)) (sym (add-one n))
  where
    either : (p q : Bool) (c : ℕ) → cond q b (cond p b c) ≡ cond (p || q) b c
    either true true c = refl
    either true false c = refl
    either false true c = refl
    either false false c = refl

module _ (f : ℕ → ℕ) (a b : ℕ) (t₀ : List ℕ) where
  pub changed_none : Changed f 0 a b t₀ t₀
  unfolding any
  changed_none = (λ k l. absurd (omega arith), λ k l. absurd (omega arith), λ k l. absurd (omega arith), λ x l. refl)

  -- one place more
  module _ (apart : eqb a b ≡ false) (t t' : List ℕ) (n y : ℕ) (e : y ≡ f n) (same : length t ≡ length t₀) (long : length t' ≡ length t)
      (before : Changed f n a b t₀ t) (inside : y < length t) (stood : get_or t y 0 ≡ a) where
    -- it was none of those before
    fresh : (any (λ i. eqb (f i) y) n ≡ false) × (get_or t₀ y 0 ≡ a)
    fresh =
        let read : cond (any (λ i. eqb (f i) y) n) b (get_or t₀ y 0) ≡ a = sym (before.3 y inside) ∙ stood in
        (elim (any (λ i. eqb (f i) y) n) as (λ t. any (λ i. eqb (f i) y) n ≡ t → (any (λ i. eqb (f i) y) n ≡ false) × (get_or t₀ y 0 ≡ a)) [
          | true ↦ λ h.
              let q : b ≡ a = sym (ap (λ (t : Bool). cond t b (get_or t₀ y 0)) h) ∙ read in
              absurd (eqb-false a b apart (sym q))
          | false ↦ λ h. (h, sym (ap (λ (t : Bool). cond t b (get_or t₀ y 0)) h) ∙ read)
        ]) refl

    pub changed_more : Standing (λ z. cond (eqb y z) b (get_or t z 0)) t' → Changed f (n + 1) a b t₀ t'
    changed_more now = (
      below_more (λ k. f k < length t₀) n before.0 (rw (sym e, sym same) inside),
      below_more (λ k. get_or t₀ (f k) 0 ≡ a) n before.1 (rw (sym e) fresh.1),
      below_more (λ k. any (λ i. eqb (f i) (f k)) k ≡ false) n before.2 (ap (λ (w : ℕ). any (λ i. eqb (f i) w) n) (sym e) ∙ fresh.0),
      marked_more f b t₀ t t' n y e long before.3 now,
    )

-- what is read past the end
pub past : (t : List ℕ) (x : ℕ) → length t ≤ x → ◌≡◌ {A = ℕ} 0 (get_or t x 0)
past [] x l = refl
past (c ∷ t) zero l = absurd (omega arith)
past (c ∷ t) (suc x) l = past t x (le_of_suc-le-suc l)

-- what is looked up, 0 past the end
pub looked : (t : List ℕ) (x : ℕ) → unwrap_or (cond (ltb x (length t)) (Some (get_or t x 0)) None) 0 ≡ get_or t x 0
looked t x =
    (elim (ltb x (length t)) as (λ b. ltb x (length t) ≡ b → unwrap_or (cond b (Some (get_or t x 0)) None) 0 ≡ get_or t x 0) [
      | true ↦ λ e. refl
      | false ↦ λ e. past t x (ltb-false x (length t) e)
    ]) refl

module _ (f e : ℕ → ℕ) (t₀ : List ℕ) where
  -- one place more
  module _ (t t' : List ℕ) (n y v : ℕ) (q : y ≡ f n) (r : v ≡ e n) (same : length t ≡ length t₀) (long : length t' ≡ length t)
      (before : Noted f e n t₀ t) (inside : y < length t) (stood : get_or t y 0 ≡ 1) (now : Standing (λ z. cond (eqb y z) (v + 2) (get_or t z 0)) t') where
    -- it was none of those before
    new : any (λ i. eqb (f i) y) n ≡ false
    new =
        (elim (any (λ i. eqb (f i) y) n) as (λ b. any (λ i. eqb (f i) y) n ≡ b → b ≡ false) [
          | true ↦ λ h.
              let w = any_witness (λ i. eqb (f i) y) n h in
              let z : get_or t y 0 ≡ e w.0 + 2 = ap (λ (x : ℕ). get_or t x 0) (sym (eqb-true _ _ w.2)) ∙ before.3 w.0 w.1 in
              absurd (omega (arith, z, stood))
          | false ↦ λ h. refl
        ]) refl

    -- the other places are as before
    other : (x : ℕ) → x < length t → eqb y x ≡ false → get_or t' x 0 ≡ get_or t x 0
    other x l h = now x (rw long l) ∙ ap (λ (b : Bool). cond b (v + 2) (get_or t x 0)) h

    pub noted_more : Noted f e (n + 1) t₀ t'
    unfolding any
    noted_more = (
      below_more (λ k. f k < length t₀) n before.0 (rw (sym q, sym same) inside),
      below_more (λ k. get_or t₀ (f k) 0 ≡ 1) n before.1 (rw (sym q) (sym (before.4 y (rw (sym same) inside) new) ∙ stood)),
      below_more (λ k. any (λ i. eqb (f i) (f k)) k ≡ false) n before.2 (ap (λ (w : ℕ). any (λ i. eqb (f i) w) n) (sym q) ∙ new),
      below_more (λ k. get_or t' (f k) 0 ≡ e k + 2) n
          (λ k l. other (f k) (rw same (before.0 k l)) (ne_eqb y (f k) (λ z. true≢false (sym (eq-eqb (f k) y (sym z)) ∙ any_none (λ i. eqb (f i) y) n new k l))) ∙ before.3 k l)
          (rw (sym q, sym r) (now y (rw long inside) ∙ ap (λ (b : Bool). cond b (v + 2) (get_or t y 0)) (eq-eqb y y refl))),
      λ x l h.
          let parts = or_none (any (λ i. eqb (f i) x) n) (eqb (f n) x) (sym (ap (any (λ i. eqb (f i) x)) (add-one n)) ∙ h) in
          other x (rw same l) (ap (λ (w : ℕ). eqb w x) q ∙ parts.1) ∙ before.4 x l parts.0,
    )

-- what stands for an owner
pub owner_read : (s : Sheet) (owners : List ℕ) (v c : ℕ) → Owners s owners → c ≡ get_or owners v 0 → (c ≡ 0 → ⊥) → c - 1 ≡ owner s v
unfolding told
owner_read s owners v c right e some =
    (elim (ltb v (length owners)) as (λ b. ltb v (length owners) ≡ b → c - 1 ≡ owner s v) [
      | true ↦ λ h.
          let z : c ≡ first_by s SetSpans v 0 = e ∙ right v (ltb-true v (length owners) h) in
          ap (λ (b : Bool). cond b (count s objects) (c - 1)) (sym (ne_eqb c 0 some)) ∙ ap (told (count s objects)) z ∙ owner_told s v
      | false ↦ λ h. absurd (some (e ∙ sym (past owners v (ltb-false v (length owners) h))))
    ]) refl

-- one more of the sets that a programme names
pub sets_more : (s : Sheet) (alike owners : List ℕ) (p j v c u : ℕ) (t₀ t t' : List ℕ) → Owners s owners → v ≡ named_set s p j → v < count s value_sets → c ≡ get_or owners v 0 → (c ≡ 0 → ⊥)
    → u ≡ representative alike v → length t ≡ length t₀ → length t' ≡ length t → SetsNotedTo s alike p j t₀ t
    → (c - 1 < length t) × (get_or t (c - 1) 0 ≡ 1) × Standing (λ z. cond (eqb (c - 1) z) (u + 2) (get_or t z 0)) t' → SetsNotedTo s alike p (j + 1) t₀ t'
unfolding owner_at
sets_more s alike owners p j v c u t₀ t t' owns set small e some stands same long before now =
    record {
      noted = noted_more (owner_at s p) (λ k. representative alike (named_set s p k)) t₀ t t' j (c - 1) u (owner_read s owners v c owns e some ∙ ap (owner s) set)
          (stands ∙ ap (representative alike) set) same long before.noted now.0 now.1 now.2;
      inside = below_more (λ k. named_set s p k < count s value_sets) j before.inside (rw (sym set) small);
    }

-- an entry of the programme's content list, and of its set list
pub object_entry : (s : Sheet) (sections : SectionOffsets) (from p i : ℕ) → Begins s sections → from ≡ field s programmes p content_list → object_from s sections from i ≡ object_at s p i
unfolding object_from object_at entry reference field start record_words
object_entry s sections from p i a b = rw (a.0, a.1, b) refl

pub set_entry : (s : Sheet) (base from p j : ℕ) → base ≡ offset s references → from ≡ field s programmes p set_list → word s (base + (from + j)) ≡ named_set s p j
unfolding named_set entry reference
set_entry s base from p j a b = rw (a, b) refl

-- a word of a value set
set_word : (s : Sheet) (u f : ℕ) → field s value_sets u (set_gain + f) ≡ word s (offset s value_sets + u * 7 + (set_gain + f))
unfolding field start record_words
set_word s u f = refl

-- bytes that are alike make words that are
same_bytes : (t : List ℕ) (i j : ℕ) → i < length t / 2 → j < length t / 2 → get_or t (2 * i) 0 ≡ get_or t (2 * j) 0 → get_or t (2 * i + 1) 0 ≡ get_or t (2 * j + 1) 0 → word (sheet_of t) i ≡ word (sheet_of t) j
unfolding sheet_of word
same_bytes t i j l k a b = words_at t i l ∙ ap₂ (λ (x y : ℕ). 256 * x + y) a b ∙ sym (words_at t j k)

pub bytes_alike : (t x y : List ℕ) (base u v : ℕ) → base ≡ offset (sheet_of t) value_sets → 2 * (base + 7 * u) + 14 ≤ length t → 2 * (base + 7 * v) + 14 ≤ length t
    → x ≡ slice_range t (2 * (base + 7 * u)) (2 * (base + 7 * u) + 14) → y ≡ slice_range t (2 * (base + 7 * v)) (2 * (base + 7 * v) + 14) → x ≡ y → sets_differ (sheet_of t) u v ≡ false
bytes_alike t x y base u v at a b p q same = same_sets (sheet_of t) u v each
  where
    byte : (f : ℕ) → f < 14 → get_or t (2 * (base + 7 * u) + f) 0 ≡ get_or t (2 * (base + 7 * v) + f) 0
    byte f l =
        sym (part_place t x (2 * (base + 7 * u)) (2 * (base + 7 * u) + 14) p f (omega arith))
        ∙ ap (λ (w : List ℕ). get_or w f 0) same
        ∙ part_place t y (2 * (base + 7 * v)) (2 * (base + 7 * v) + 14) q f (omega arith)

    each : (f : ℕ) → f < 7 → field (sheet_of t) value_sets u (set_gain + f) ≡ field (sheet_of t) value_sets v (set_gain + f)
    each f l =
        let i : offset (sheet_of t) value_sets + u * 7 + (set_gain + f) ≡ base + 7 * u + f = omega (arith, at) in
        let j : offset (sheet_of t) value_sets + v * 7 + (set_gain + f) ≡ base + 7 * v + f = omega (arith, at) in
        let e : 2 * (base + 7 * u + f) ≡ 2 * (base + 7 * u) + 2 * f = omega arith in
        let g : 2 * (base + 7 * v + f) ≡ 2 * (base + 7 * v) + 2 * f = omega arith in
        let e1 : 2 * (base + 7 * u + f) + 1 ≡ 2 * (base + 7 * u) + (2 * f + 1) = omega arith in
        let g1 : 2 * (base + 7 * v + f) + 1 ≡ 2 * (base + 7 * v) + (2 * f + 1) = omega arith in
        word_of_lem u f ∙ ap (word (sheet_of t)) i
        ∙ same_bytes t (base + 7 * u + f) (base + 7 * v + f) (omega arith) (omega arith)
        (ap (λ (x : ℕ). get_or t x 0) e ∙ byte (2 * f) (omega arith) ∙ ap (λ (x : ℕ). get_or t x 0) (sym g))
        (ap (λ (x : ℕ). get_or t x 0) e1 ∙ byte (2 * f + 1) (omega arith) ∙ ap (λ (x : ℕ). get_or t x 0) (sym g1))
        ∙ ap (word (sheet_of t)) (sym j) ∙ sym (word_of_lem v f)
      where
        word_of_lem : (u f : ℕ) → field (sheet_of t) value_sets u (set_gain + f) ≡ word (sheet_of t) (offset (sheet_of t) value_sets + u * 7 + (set_gain + f))
        word_of_lem u f = set_word (sheet_of t) u f

-- the leader's set has the words of those of the members
abbrev SetsAgree : Sheet → List ℕ → ℕ → Type 0
SetsAgree s t l = 1 < get_or t l 0 → (i : ℕ) → i < members s l → 1 < get_or t (member s l i) 0 → sets_differ s (get_or t l 0 - 2) (get_or t (member s l i) 0 - 2) ≡ false

-- a group by its leader and its list
module _ (s : Sheet) (t : List ℕ) (sections : SectionOffsets) (others : Entries) (e l : ℕ) (a : Begins s sections) (b : ListsComplements s sections.references l others) (d : e ≡ get_or t l 0) where
  pub many_counted : many_listed s t others.base others.list.first others.list.count e ≡ many_in s t l
  unfolding many_in members member entry reference
  many_counted = rw (b.begins, a.0, b.first, b.many, d) (sym (how_many_shift (λ i. not (eqb (get_or t (member s l i) 0) 0)) (number s objects l complement_list)))

  sets_counted : sets_listed s t others.base others.list.first others.list.count e ≡ sets_in s t l
  unfolding sets_in members member entry reference
  sets_counted = rw (b.begins, a.0, b.first, b.many, d) (sym (how_many_shift (λ i. ltb 1 (get_or t (member s l i) 0)) (number s objects l complement_list)))

  pub list_kept : ListKept s t others.base others.list.first others.list.count e → GroupKept s t l
  unfolding members member entry reference
  list_kept kept = (
    ap (λ (k : ℕ). group_whole (suc k) (many_in s t l) (sets_in s t l)) (sym b.many) ∙ ap₂ (group_whole (suc others.list.count)) (sym many_counted) (sym sets_counted) ∙ kept.whole,
    each,
  )
    where
      each : SetsAgree s t l
      each k zero m r = sets_own s (get_or t l 0 - 2)
      each k (suc i) m r = rw (sym d) (rw (sym a.0, sym b.begins, sym b.first) (kept.agreeing (rw d k) i (rw b.many (le_of_suc-le-suc m)) (rw (b.begins, a.0, b.first) r)))

-- a group is whole where all members are included, and sets are named for all or none
pub all_whole : (n many set : ℕ) → (eqb many n && (eqb set 0 || eqb set n)) ≡ true → group_whole n many set ≡ true
unfolding group_whole
all_whole n many set e = ap (λ (b : Bool). leb many 1 || b) e ∙ or_true (leb many 1)

-- a group of two: where both are included, sets are named for both or none
pair_whole : (a b p q : Bool) → (a ≡ true → b ≡ true → p ≡ q) → group_whole 2 (cond a 1 0 + cond b 1 0) (cond p 1 0 + cond q 1 0) ≡ true
unfolding group_whole
pair_whole false false p q h = refl
pair_whole false true p q h = refl
pair_whole true false p q h = refl
pair_whole true true false false h = refl
pair_whole true true false true h = absurd (true≢false (sym (h refl refl)))
pair_whole true true true false h = absurd (true≢false (h refl refl))
pair_whole true true true true h = refl

module _ (s : Sheet) (e c : ℕ) where
  -- one is not included
  pub pair_none : (e ≡ 0) ⊎ (c ≡ 0) → PairKept s e c
  pair_none h =
      let none : not (eqb e 0) ≡ true → not (eqb c 0) ≡ true → ltb 1 e ≡ ltb 1 c =
      λ a b. absurd (⊎_elim (λ q. true≢false (sym a ∙ ap not (eq-eqb e 0 q))) (λ q. true≢false (sym b ∙ ap not (eq-eqb c 0 q))) h) in
      (pair_whole (not (eqb e 0)) (not (eqb c 0)) (ltb 1 e) (ltb 1 c) none, λ l m. absurd (⊎_elim (λ q. let z : e ≡ 0 = q in omega arith) (λ q. let z : c ≡ 0 = q in omega arith) h))

  -- both have one number
  pub pair_same : e ≡ c → PairKept s e c
  pair_same z = (
    pair_whole (not (eqb e 0)) (not (eqb c 0)) (ltb 1 e) (ltb 1 c) (λ a b. ap (ltb 1) z),
    λ l m. ap (λ (x : ℕ). sets_differ s (x - 2) (c - 2)) z ∙ sets_own s (c - 2),
  )

  -- both are named
  pub pair_sets : 1 < e → 1 < c → (1 < c → sets_differ s (e - 2) (c - 2) ≡ false) → PairKept s e c
  pair_sets l m h = (pair_whole (not (eqb e 0)) (not (eqb c 0)) (ltb 1 e) (ltb 1 c) (λ a b. lt-ltb 1 e l ∙ sym (lt-ltb 1 c m)), λ a b. h b)

-- a group of two, by its members
module _ (s : Sheet) (t : List ℕ) (l m : ℕ) (e : member s l 1 ≡ m) where
  two_members : (p : ℕ → Bool) → how_many (λ i. p (member s l i)) 2 ≡ cond (p l) 1 0 + cond (p m) 1 0
  unfolding how_many member
  two_members p = how_many_shift (λ i. p (member s l i)) 1 ∙ ap (λ (x : ℕ). cond (p l) 1 0 + (0 + cond (p x) 1 0)) e ∙ ap (λ (x : ℕ). cond (p l) 1 0 + x) (zero-add (cond (p m) 1 0))

  pub pair_group : members s l ≡ 2 → PairKept s (get_or t l 0) (get_or t m 0) → GroupKept s t l
  unfolding many_in sets_in member
  pair_group two kept = (
    rw (two, two_members (λ x. not (eqb (get_or t x 0) 0)), two_members (λ x. ltb 1 (get_or t x 0))) kept.0,
    λ k i h r. each i (rw two at h) k r,
  )
    where
      each : (i : ℕ) → i < 2 → 1 < get_or t l 0 → 1 < get_or t (member s l i) 0 → sets_differ s (get_or t l 0 - 2) (get_or t (member s l i) 0 - 2) ≡ false
      each zero h k r = sets_own s (get_or t l 0 - 2)
      each (suc zero) h k r = ap (λ (x : ℕ). sets_differ s (get_or t l 0 - 2) (get_or t x 0 - 2)) e ∙ kept.1 k (subst (λ (x : ℕ). 1 < get_or t x 0) e r)
      each (suc (suc i)) h k r = absurd (omega arith)

-- a group of which one member at most is included is kept
module _ (s : Sheet) (t : List ℕ) (l : ℕ) where
  pub one_kept : many_in s t l ≤ 1 → GroupKept s t l
  unfolding group_whole many_in
  one_kept few = (ap (λ (b : Bool). b || eqb (many_in s t l) (members s l) && (eqb (sets_in s t l) 0 || eqb (sets_in s t l) (members s l))) (le-leb (many_in s t l) 1 few), each)
    where
      each : SetsAgree s t l
      each a zero k b = ap (λ (x : ℕ). sets_differ s (get_or t l 0 - 2) (get_or t x 0 - 2)) (member_zero s l) ∙ sets_own s (get_or t l 0 - 2)
      each a (suc i) k b =
          absurd (omega (
            arith,
            few,
            two_counted (λ x. not (eqb (get_or t (member s l x) 0) 0)) (members s l) 0 (suc i) (λ q. let z : 0 ≡ suc i = q in omega arith) (omega arith) k
                (some (member s l 0) (subst (λ (x : ℕ). 1 < get_or t x 0) (sym (member_zero s l)) a)) (some (member s l (suc i)) b),
          ))
        where
          some : (x : ℕ) → 1 < get_or t x 0 → not (eqb (get_or t x 0) 0) ≡ true
          some x a = ap not (ne_eqb (get_or t x 0) 0 (λ q. let z : get_or t x 0 ≡ 0 = q in absurd (omega arith)))
