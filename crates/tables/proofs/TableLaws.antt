-- What the passes leave is what the rules and relations ask. Assumes nothing.
use Prim.Native.Nat.{ℕ, zero, suc, ◌+◌, ◌-◌, ◌<◌, ◌≤◌}
use mathlib.Core.Path.{◌≡◌, refl, sym, ap, ap₂, ◌∙◌}
use mathlib.Core.Logic.{⊎_elim}
use mathlib.Core.Bool.{Bool, true, false, cond, not, ◌&&◌, ◌||◌}
use native.Mathlib.Omega.{arith}
use native.Mathlib.Nat.{zero-add, add-zero, eq-or-lt_of_le}
use borrow.Author.Tests.{eq-eqb, ne_eqb, lt-ltb, le-ltb, le-leb, ltb-true, ltb-false, leb-true, eqb-true, eqb-false}
use mathlib.Core.List.{List}
use lib.Dec.{eqb, leb, ltb}
use lib.ListN.{length, get_or}
use Rattle.std.specs.Option.{SomeIff, unwrap_or}
use Rattle.std.specs.Prelude.{Option, Some, None, drop, slice_range}
use Rattle.std.proofs.lemmas.List.{get_or-take, get_or-drop}
use Rattle.std.proofs.lemmas.Option.{cond_some}
use Rattle.sheet.specs.Words.{Sheet}
use Rattle.sheet.specs.Layout.{count, field, first, number, entry}
use Rattle.sheet.specs.Fields.{programmes, contents, objects, content_list, set_list, content_object, complement_list, set_span}
use Rattle.profile.specs.Counting.{any, how_many, sum, lowest, lowest_from}
use Rattle.profile.specs.Relations.{lists, times, top, complement, leader_of, includes, has_set, owner, named_set, names_set, namings}
use Rattle.profile.proofs.CountingLaws.{any_how_many, any_none, found, nothing, lowest_le}
use Rattle.profile.proofs.SumLaws.{sum_eq, sum_swap, how_many_sum, any_nowhere}
use Rattle.tables.specs.declared.Naming.TheVariants.{ContentObjects, Children, Complements, ContentLists, Included, SetLists, SetSpans}
use Rattle.tables.specs.steps.Marks.{Standing, counted_once, repeat, times_by, named_by, names_by, first_from, first_by}
use Rattle.tables.specs.steps.Right.{counted, told, NamedSets}
use Rattle.tables.proofs.MarkLaws.{repeat_add, repeat_store}

-- a count tells none, one and more apart
counted_two : (n : ℕ) → counted (suc (suc n)) ≡ 2
unfolding counted repeat
counted_two zero = refl
counted_two (suc n) = ap counted_once (unfold counted repeat in counted_two n)

pub counted_zero : (n : ℕ) → eqb (counted n) 0 ≡ eqb n 0
unfolding counted repeat
counted_zero zero = refl
counted_zero (suc zero) = refl
counted_zero (suc (suc n)) = ap (λ (c : ℕ). eqb c 0) (counted_two n) ∙ sym (ne_eqb (suc (suc n)) 0 (λ q. let z : suc (suc n) ≡ 0 = q in omega arith))

pub counted_one : (n : ℕ) → eqb (counted n) 1 ≡ eqb n 1
unfolding counted repeat
counted_one zero = refl
counted_one (suc zero) = refl
counted_one (suc (suc n)) = ap (λ (c : ℕ). eqb c 1) (counted_two n) ∙ sym (ne_eqb (suc (suc n)) 1 (λ q. let z : suc (suc n) ≡ 1 = q in omega arith))

pub counted_more : (n : ℕ) → ltb 1 (counted n) ≡ ltb 1 n
unfolding counted repeat
counted_more zero = refl
counted_more (suc zero) = refl
counted_more (suc (suc n)) = ap (λ (c : ℕ). ltb 1 c) (counted_two n) ∙ sym (lt-ltb 1 (suc (suc n)) (omega arith))

-- something in some list: the counts of all lists are not 0
pub any_sum : (p : ℕ → ℕ → Bool) (m : ℕ → ℕ) (n : ℕ) → any (λ q. any (p q) (m q)) n ≡ not (eqb (sum (λ q. how_many (p q) (m q)) n) 0)
unfolding any sum
any_sum p m zero = refl
any_sum p m (suc n) =
    ap (λ (b : Bool). b || any (p n) (m n)) (any_sum p m n)
    ∙ ap (λ (b : Bool). not (eqb (sum (λ q. how_many (p q) (m q)) n) 0) || b) (any_how_many (p n) (m n))
    ∙ both (sum (λ q. how_many (p q) (m q)) n) (how_many (p n) (m n))
  where
    both : (a b : ℕ) → (not (eqb a 0) || not (eqb b 0)) ≡ not (eqb (a + b) 0)
    both zero b = ap (λ (n : ℕ). not (eqb n 0)) (sym (zero-add b))
    both (suc a) b = rw (ne_eqb (suc a) 0 (λ q. let z : suc a ≡ 0 = q in omega arith), ne_eqb (suc a + b) 0 (λ q. let z : suc a + b ≡ 0 = q in omega arith)) refl

-- a sum grows
pub sum_below : (f : ℕ → ℕ) (m n : ℕ) → m ≤ n → sum f m ≤ sum f n
unfolding sum
sum_below f m zero l = let e : m ≡ 0 = omega arith in rw e (omega arith)
sum_below f m (suc n) l = ⊎_elim (λ q. rw q (omega arith)) (λ k. omega (arith, sum_below f m n (omega arith))) (eq-or-lt_of_le l)

-- what a number tells, by one less than it
pub told_by : (o : Option ℕ) (d c : ℕ) → SomeIff o (1 ≤ c) (c - 1) → unwrap_or o d ≡ told d c
unfolding told
told_by None d c e = let z : c ≡ 0 = omega (arith, e) in rw z refl
told_by (Some v) d c e = rw (ne_eqb c 0 (λ q. omega (arith, q, e.0))) e.1

-- a place of a part of a table
pub part_place : (t u : List ℕ) (from to : ℕ) → u ≡ slice_range t from to → (k : ℕ) → k < to - from → get_or u k 0 ≡ get_or t (from + k) 0
part_place t u from to e k l = ap (λ (v : List ℕ). get_or v k 0) e ∙ get_or-take (to - from) (drop from t) k 0 l ∙ get_or-drop from t k 0

-- what is read at a place of a table that has g at each
pub standing_read : (g : ℕ → ℕ) (t : List ℕ) (x n : ℕ) → Standing g t → cond (ltb x (length t)) (Some (get_or t x 0)) None ≡ Some n → n ≡ g x
standing_read g t x n right e = let has = cond_some (ltb x (length t)) (get_or t x 0) n e in sym has.1 ∙ right x (ltb-true x (length t) has.0)

-- a run names each of its numbers once
pub run_times : (f v n : ℕ) → how_many (λ i. eqb (f + i) v) n ≡ cond (leb f v && ltb v (f + n)) 1 0
unfolding how_many
run_times f v zero =
    (elim (leb f v) as (λ b. leb f v ≡ b → ◌≡◌ {A = ℕ} 0 (cond (leb f v && ltb v (f + 0)) 1 0)) [
      | true ↦ λ e. let l : f ≤ v = leb-true f v e in rw (e, le-ltb v (f + 0) (omega arith)) refl
      | false ↦ λ e. rw e refl
    ]) refl
run_times f v (suc n) =
    ap (λ (c : ℕ). c + cond (eqb (f + n) v) 1 0) (run_times f v n)
    ∙ (elim (eqb (f + n) v) as (λ b. eqb (f + n) v ≡ b → cond (leb f v && ltb v (f + n)) 1 0 + cond (eqb (f + n) v) 1 0 ≡ cond (leb f v && ltb v (f + suc n)) 1 0) [
      | true ↦ λ e.
          let q : f + n ≡ v = eqb-true (f + n) v e in
          rw (e, le-leb f v (omega arith), le-ltb v (f + n) (omega arith), lt-ltb v (f + suc n) (omega arith)) refl
      | false ↦ λ e. rw (e, next e) (add-zero (cond (leb f v && ltb v (f + suc n)) 1 0))
    ]) refl
  where
    next : eqb (f + n) v ≡ false → ltb v (f + n) ≡ ltb v (f + suc n)
    next e =
        (elim (ltb v (f + n)) as (λ b. ltb v (f + n) ≡ b → b ≡ ltb v (f + suc n)) [
          | true ↦ λ h. let l : v < f + n = ltb-true v (f + n) h in sym (lt-ltb v (f + suc n) (omega arith))
          | false ↦ λ h.
              let l : f + n ≤ v = ltb-false v (f + n) h in
              let m : f + n ≡ v → ⊥ = eqb-false (f + n) v e in
              sym (le-ltb v (f + suc n) (⊎_elim (λ q. absurd (m q)) (λ k. omega arith) (eq-or-lt_of_le l)))
        ]) refl

pub flag : (b : Bool) → not (eqb (cond b 1 0) 0) ≡ b
flag true = refl
flag false = refl

-- it has those from its first on
run_has : (f v n : ℕ) → any (λ i. eqb (f + i) v) n ≡ (leb f v && ltb v (f + n))
run_has f v n = any_how_many (λ i. eqb (f + i) v) n ∙ ap (λ (c : ℕ). not (eqb c 0)) (run_times f v n) ∙ flag (leb f v && ltb v (f + n))

-- tests that agree
pub any_below : (p q : ℕ → Bool) (n : ℕ) → ((i : ℕ) → i < n → p i ≡ q i) → any p n ≡ any q n
unfolding any
any_below p q zero h = refl
any_below p q (suc n) h = ap₂ (λ (a b : Bool). a || b) (any_below p q n (λ i l. h i (omega arith))) (h n (omega arith))

lowest_same : (p q : ℕ → Bool) (i n : ℕ) → ((j : ℕ) → p j ≡ q j) → lowest_from p i n ≡ lowest_from q i n
unfolding lowest_from
lowest_same p q i zero h = refl
lowest_same p q i (suc n) h = ap₂ (λ (b : Bool) (c : ℕ). cond b i c) (h i) (lowest_same p q (suc i) n h)

-- the first, by the lowest
first_any : (p : ℕ → Bool) (d i n : ℕ) → first_from p d i n ≡ cond (ltb (lowest_from p i n) (i + n)) (suc (lowest_from p i n)) d
unfolding first_from lowest_from
first_any p d i zero = let e : i ≡ i + 0 = omega arith in rw (le-ltb i (i + 0) (omega arith)) refl
first_any p d i (suc n) =
    (elim (p i) as (λ b. p i ≡ b → first_from p d i (suc n) ≡ cond (ltb (lowest_from p i (suc n)) (i + suc n)) (suc (lowest_from p i (suc n))) d) [
      | true ↦ λ e. rw (e, lt-ltb i (i + suc n) (omega arith)) refl
      | false ↦ λ e. let z : i + suc n ≡ suc i + n = omega arith in rw (e, z) (first_any p d (suc i) n)
    ]) refl

-- the lowest is one of n exactly where there is any
pub lowest_any : (p : ℕ → Bool) (n : ℕ) → ltb (lowest p n) n ≡ any p n
lowest_any p n =
    (elim (ltb (lowest p n) n) as (λ b. ltb (lowest p n) n ≡ b → b ≡ any p n) [
      | true ↦ λ e. (elim (any p n) as (λ b. any p n ≡ b → true ≡ b) [
        | true ↦ λ f. refl
        | false ↦ λ f. sym (found p n e) ∙ any_none p n f (lowest p n) (ltb-true (lowest p n) n e)
      ]) refl
      | false ↦ λ e. sym (any_nowhere p n (nothing p n e))
    ]) refl

turned : (b : Bool) → ◌≡◌ {A = ℕ} (cond b 0 1) (cond (not b) 1 0)
turned true = refl
turned false = refl

pub eqb_turned : (a b : ℕ) → eqb a b ≡ eqb b a
eqb_turned a b =
    (elim (eqb a b) as (λ c. eqb a b ≡ c → c ≡ eqb b a) [
      | true ↦ λ e. sym (eq-eqb b a (sym (eqb-true a b e)))
      | false ↦ λ e. sym (ne_eqb b a (λ q. eqb-false a b e (sym q)))
    ]) refl

-- something in some list, either way round
any_swap : (p : ℕ → ℕ → Bool) (m n : ℕ) → any (λ k. any (p k) n) m ≡ any (λ i. any (λ k. p k i) m) n
any_swap p m n =
    any_sum p (λ k. n) m
    ∙ ap (λ (c : ℕ). not (eqb c 0))
    (sum_eq (λ k. how_many (p k) n) (λ k. sum (λ i. cond (p k i) 1 0) n) m (λ k l. how_many_sum (p k) n)
    ∙ sum_swap (λ k i. cond (p k i) 1 0) m n
    ∙ sum_eq (λ i. sum (λ k. cond (p k i) 1 0) m) (λ i. how_many (λ k. p k i) m) n (λ i l. sym (how_many_sum (λ k. p k i) m)))
    ∙ sym (any_sum (λ i k. p k i) (λ i. m) n)

-- what stands in a table, read
told_read : (d : ℕ) (b : Bool) (l : ℕ) → told d (cond b (suc l) 0) ≡ cond b l d
unfolding told
told_read d true l = let e : suc l - 1 ≡ l = omega arith in rw (ne_eqb (suc l) 0 (λ q. let z : suc l ≡ 0 = q in omega arith), e) refl
told_read d false l = refl

told_first : (p : ℕ → Bool) (d n : ℕ) → told d (first_from p 0 0 n) ≡ cond (ltb (lowest p n) n) (lowest p n) d
unfolding lowest
told_first p d n =
    ap (told d) (first_any p 0 0 n)
    ∙ ap (λ (m : ℕ). told d (cond (ltb (lowest_from p 0 n) m) (suc (lowest_from p 0 n)) 0)) (zero-add n)
    ∙ told_read d (ltb (lowest_from p 0 n) n) (lowest_from p 0 n)

-- the end stands for none
end_lowest : (p : ℕ → Bool) (n : ℕ) → cond (ltb (lowest p n) n) (lowest p n) n ≡ lowest p n
end_lowest p n =
    (elim (ltb (lowest p n) n) as (λ b. ltb (lowest p n) n ≡ b → cond b (lowest p n) n ≡ lowest p n) [
      | true ↦ λ e. refl
      | false ↦ λ e. let l : n ≤ lowest p n = ltb-false (lowest p n) n e in omega (arith, lowest_le p n)
    ]) refl

module _ (s : Sheet) where
  -- contents
  content_namings : (o : ℕ) → named_by s ContentObjects o ≡ how_many (λ c. eqb (field s contents c content_object) o) (count s contents)
  unfolding named_by times_by how_many
  content_namings o =
      sum_eq (λ c. 0 + cond (eqb (field s contents c content_object) o) 1 0) (λ c. cond (eqb (field s contents c content_object) o) 1 0) (count s contents) (λ i l. zero-add _)
      ∙ sym (how_many_sum (λ c. eqb (field s contents c content_object) o) (count s contents))

  pub top_counted : (o : ℕ) → top s o ≡ not (eqb (counted (named_by s ContentObjects o)) 0)
  unfolding top
  top_counted o =
      any_how_many (λ c. eqb (field s contents c content_object) o) (count s contents)
      ∙ ap (λ (n : ℕ). not (eqb n 0)) (sym (content_namings o))
      ∙ ap not (sym (counted_zero (named_by s ContentObjects o)))

  -- contents and child lists
  pub namings_added : (o : ℕ) → repeat counted_once (named_by s Children o) (repeat counted_once (named_by s ContentObjects o) 0) ≡ counted (namings s o)
  unfolding counted namings
  namings_added o =
      sym (repeat_add counted_once (named_by s ContentObjects o) (named_by s Children o) 0)
      ∙ ap (λ (n : ℕ). repeat counted_once n 0) (ap₂ (λ (a b : ℕ). a + b) (content_namings o) (unfold named_by times_by times in refl))

  -- complement lists
  pub complement_counted : (o : ℕ) → complement s o ≡ not (eqb (counted (named_by s Complements o)) 0)
  unfolding complement lists named_by times_by
  complement_counted o =
      any_sum (λ l i. eqb (entry s objects l complement_list i) o) (λ l. number s objects l complement_list) (count s objects)
      ∙ ap not (sym (counted_zero (named_by s Complements o)))

  pub complement_times : (o : ℕ) → sum (λ l. times s objects l complement_list o) (count s objects) ≡ named_by s Complements o
  unfolding named_by times_by times
  complement_times o = refl

  pub leader_told : (o : ℕ) → told o (first_by s Complements o 0) ≡ leader_of s o
  unfolding first_by leader_of complement names_by lists
  leader_told o =
      told_first (λ l. names_by s Complements l o) o (count s objects)
      ∙ ap (λ (b : Bool). cond b (lowest (λ l. names_by s Complements l o) (count s objects)) o) (lowest_any (λ l. names_by s Complements l o) (count s objects))

  -- spans
  has_run : (v o : ℕ) → names_by s SetSpans o v ≡ has_set s o v
  unfolding names_by has_set
  has_run v o = run_has (first s objects o set_span) v (number s objects o set_span)

  pub span_namings : (v : ℕ) → named_by s SetSpans v ≡ how_many (λ o. has_set s o v) (count s objects)
  unfolding named_by times_by has_set
  span_namings v =
      sum_eq (λ o. how_many (λ i. eqb (first s objects o set_span + i) v) (number s objects o set_span)) (λ o. cond (leb (first s objects o set_span) v && ltb v (first s objects o set_span + number s objects o set_span)) 1 0) (count s objects)
      (λ o l. run_times (first s objects o set_span) v (number s objects o set_span))
      ∙ sym (how_many_sum (λ o. leb (first s objects o set_span) v && ltb v (first s objects o set_span + number s objects o set_span)) (count s objects))

  pub owner_told : (v : ℕ) → told (count s objects) (first_by s SetSpans v 0) ≡ owner s v
  unfolding first_by owner
  owner_told v =
      told_first (λ o. names_by s SetSpans o v) (count s objects) (count s objects)
      ∙ end_lowest (λ o. names_by s SetSpans o v) (count s objects)
      ∙ unfold lowest in lowest_same (λ o. names_by s SetSpans o v) (λ o. has_set s o v) 0 (count s objects) (has_run v)

  -- content lists
  pub listed_counted : (c : ℕ) → any (λ p. lists s programmes p content_list c) (count s programmes) ≡ not (eqb (counted (named_by s ContentLists c)) 0)
  unfolding lists named_by times_by
  listed_counted c =
      any_sum (λ p i. eqb (entry s programmes p content_list i) c) (λ p. number s programmes p content_list) (count s programmes)
      ∙ ap not (sym (counted_zero (named_by s ContentLists c)))

  -- what a programme includes
  pub included_marked : (p o : ℕ) → repeat (λ (c : ℕ). 1) (times_by s Included p o) 0 ≡ cond (includes s p o) 1 0
  unfolding times_by includes
  included_marked p o =
      repeat_store 1 (times_by s Included p o) 0
      ∙ turned (eqb (times_by s Included p o) 0)
      ∙ ap (λ (b : Bool). cond b 1 0) (sym (any_how_many (λ i. eqb (field s contents (entry s programmes p content_list i) content_object) o) (number s programmes p content_list)))

  -- the value sets that a programme names
  pub set_marked : (p v : ℕ) → repeat (λ (c : ℕ). 1) (times_by s SetLists p v) 0 ≡ cond (lists s programmes p set_list v) 1 0
  unfolding times_by lists
  set_marked p v =
      repeat_store 1 (times_by s SetLists p v) 0
      ∙ turned (eqb (times_by s SetLists p v) 0)
      ∙ ap (λ (b : Bool). cond b 1 0) (sym (any_how_many (λ i. eqb (entry s programmes p set_list i) v) (number s programmes p set_list)))

  -- a set of the object's span is named
  pub span_named : (p o : ℕ) → any (λ k. lists s programmes p set_list (first s objects o set_span + k)) (number s objects o set_span) ≡ names_set s p o
  unfolding lists names_set named_set has_set
  span_named p o =
      any_swap (λ k i. eqb (entry s programmes p set_list i) (first s objects o set_span + k)) (number s objects o set_span) (number s programmes p set_list)
      ∙ any_below (λ i. any (λ k. eqb (entry s programmes p set_list i) (first s objects o set_span + k)) (number s objects o set_span)) (λ i. leb (first s objects o set_span) (entry s programmes p set_list i) && ltb (entry s programmes p set_list i) (first s objects o set_span + number s objects o set_span)) (number s programmes p set_list)
      (λ i l. any_below (λ k. eqb (entry s programmes p set_list i) (first s objects o set_span + k)) (λ k. eqb (first s objects o set_span + k) (entry s programmes p set_list i)) (number s objects o set_span) (λ k m. eqb_turned (entry s programmes p set_list i) (first s objects o set_span + k)) ∙ run_has (first s objects o set_span) (entry s programmes p set_list i) (number s objects o set_span))

  pub names_marked : (p o : ℕ) (t : List ℕ) → NamedSets s p t → first s objects o set_span + number s objects o set_span ≤ length t
      → any (λ k. not (eqb (get_or t (first s objects o set_span + k) 0) 0)) (number s objects o set_span) ≡ names_set s p o
  names_marked p o t right l =
      any_below (λ k. not (eqb (get_or t (first s objects o set_span + k) 0) 0)) (λ k. lists s programmes p set_list (first s objects o set_span + k)) (number s objects o set_span)
      (λ k m. ap (λ (c : ℕ). not (eqb c 0)) (right (first s objects o set_span + k) (omega arith)) ∙ flag (lists s programmes p set_list (first s objects o set_span + k)))
      ∙ span_named p o
