-- Counting by cover: what the runs name, record by record, is what the indices name, each as often as runs cover it. Assumes nothing.
use Prim.Native.Nat.{ℕ, zero, suc, ◌+◌, ◌%◌, ◌<◌, ◌≤◌}
use mathlib.Core.Path.{◌≡◌, refl, sym, ap, ap₂, ◌∙◌}
use mathlib.Core.Bool.{Bool, true, false, cond, ◌&&◌}
use mathlib.Core.Logic.{⊎_elim}
use mathlib.Core.List.{List}
use native.Mathlib.Omega.{arith}
use native.Mathlib.Nat.{add-zero, eq-or-lt_of_le}
use native.Mathlib.Numerals.{add-one}
use borrow.Author.Tests.{eq-eqb, ne_eqb, lt-ltb, le-ltb, ltb-true, ltb-false, leb-true, leb-false}
use lib.Dec.{eqb, leb, ltb}
use lib.ListN.{get_or}
use Rattle.sheet.specs.Words.{Sheet}
use Rattle.sheet.specs.Layout.{entry}
use Rattle.profile.specs.Counting.{how_many, sum}
use Rattle.profile.proofs.SumLaws.{sum_eq, sum_zero, sum_swap, sum_at, how_many_sum, how_many_eq}
use Rattle.tables.specs.declared.Naming.{Naming}
use Rattle.tables.specs.declared.Naming.TheVariants.{ContentObjects, Children, Complements, ContentLists, Included, SetLists, SetSpans}
use Rattle.tables.specs.steps.Namings.{namers, items, item}
use Rattle.tables.specs.steps.Marks.{Filled, MarkedTimes, counted_once, repeat, times_by, named_by}
use Rattle.tables.specs.steps.Coverage.{run_begin, named_at, run_end, Reaching, cover}
use Rattle.tables.proofs.MarkLaws.{repeat_add}
use Rattle.tables.proofs.TableLaws.{run_times}

-- a sum where a test holds
when_sum : (b : Bool) (f : ℕ → ℕ) (n : ℕ) → cond b (sum f n) 0 ≡ sum (λ i. cond b (f i) 0) n
when_sum true f n = refl
when_sum false f n = sym (sum_zero (λ i. 0) n (λ i l. refl))

-- two tests, either way round
when_both : (b d : Bool) → ◌≡◌ {A = ℕ} (cond b (cond d 1 0) 0) (cond d (cond b 1 0) 0)
when_both true true = refl
when_both true false = refl
when_both false true = refl
when_both false false = refl

-- the indices of one run that have p
run_sum : (p : ℕ → Bool) (a k m : ℕ) → a + k ≤ m → sum (λ y. cond (p y) (cond (leb a y && ltb y (a + k)) 1 0) 0) m ≡ how_many (λ i. p (a + i)) k
run_sum p a k m l =
    sum_eq (λ y. cond (p y) (cond (leb a y && ltb y (a + k)) 1 0) 0) (λ y. sum (λ i. cond (eqb (a + i) y) (cond (p y) 1 0) 0) k) m (λ y h. each y)
    ∙ sum_swap (λ y i. cond (eqb (a + i) y) (cond (p y) 1 0) 0) m k
    ∙ sum_eq (λ i. sum (λ y. cond (eqb (a + i) y) (cond (p y) 1 0) 0) m) (λ i. cond (p (a + i)) 1 0) k (λ i h. sum_at (λ y. cond (p y) 1 0) (a + i) m (omega arith))
    ∙ sym (how_many_sum (λ i. p (a + i)) k)
  where
    each : (y : ℕ) → cond (p y) (cond (leb a y && ltb y (a + k)) 1 0) 0 ≡ sum (λ i. cond (eqb (a + i) y) (cond (p y) 1 0) 0) k
    each y =
        ap (λ (c : ℕ). cond (p y) c 0) (sym (run_times a y k) ∙ how_many_sum (λ i. eqb (a + i) y) k)
        ∙ when_sum (p y) (λ i. cond (eqb (a + i) y) 1 0) k
        ∙ sum_eq (λ i. cond (p y) (cond (eqb (a + i) y) 1 0) 0) (λ i. cond (eqb (a + i) y) (cond (p y) 1 0) 0) k (λ i h. when_both (p y) (eqb (a + i) y))

-- the exchange: the runs' indices that have p, run by run, and index by index
pub cover_sum : (p : ℕ → Bool) (a k : ℕ → ℕ) (m n : ℕ) → ((q : ℕ) → q < n → a q + k q ≤ m)
    → sum (λ y. cond (p y) (how_many (λ q. leb (a q) y && ltb y (a q + k q)) n) 0) m ≡ sum (λ q. how_many (λ i. p (a q + i)) (k q)) n
cover_sum p a k m n h =
    sum_eq (λ y. cond (p y) (how_many (λ q. leb (a q) y && ltb y (a q + k q)) n) 0) (λ y. sum (λ q. cond (p y) (cond (leb (a q) y && ltb y (a q + k q)) 1 0) 0) n) m
    (λ y l. ap (λ (c : ℕ). cond (p y) c 0) (how_many_sum (λ q. leb (a q) y && ltb y (a q + k q)) n) ∙ when_sum (p y) (λ q. cond (leb (a q) y && ltb y (a q + k q)) 1 0) n)
    ∙ sum_swap (λ y q. cond (p y) (cond (leb (a q) y && ltb y (a q + k q)) 1 0) 0) m n
    ∙ sum_eq (λ q. sum (λ y. cond (p y) (cond (leb (a q) y && ltb y (a q + k q)) 1 0) 0) m) (λ q. how_many (λ i. p (a q + i)) (k q)) n
    (λ q l. run_sum p (a q) (k q) m (h q l))

-- two counts that make up a third
how_many_split : (p q r : ℕ → Bool) (n : ℕ) → ((i : ℕ) → cond (p i) 1 0 + cond (q i) 1 0 ≡ cond (r i) 1 0) → how_many p n + how_many q n ≡ how_many r n
unfolding how_many
how_many_split p q r zero h = refl
how_many_split p q r (suc n) h = omega (arith, how_many_split p q r n h, h n)

-- those before y, and those at y
pub below_more : (a : ℕ → ℕ) (y n k b : ℕ) → k ≡ how_many (λ q. ltb (a q) y) n → b ≡ how_many (λ q. eqb (a q) y) n → k + b ≡ how_many (λ q. ltb (a q) (y + 1)) n
below_more a y n k b ek eb = ap₂ (λ (u v : ℕ). u + v) ek eb ∙ how_many_split (λ q. ltb (a q) y) (λ q. eqb (a q) y) (λ q. ltb (a q) (y + 1)) n (λ q. one (a q))
  where
    one : (x : ℕ) → cond (ltb x y) 1 0 + cond (eqb x y) 1 0 ≡ cond (ltb x (y + 1)) 1 0
    one x =
        (elim (ltb x y) as (λ b. ltb x y ≡ b → cond (ltb x y) 1 0 + cond (eqb x y) 1 0 ≡ cond (ltb x (y + 1)) 1 0) [
          | true ↦ λ e. let l : x < y = ltb-true x y e in rw (e, ne_eqb x y (λ q. let z : x ≡ y = q in absurd (omega arith)), lt-ltb x (y + 1) (omega arith)) refl
          | false ↦ λ e.
              let l : y ≤ x = ltb-false x y e in
              ⊎_elim (λ q. let z : y ≡ x = q in rw (e, eq-eqb x y (sym z), lt-ltb x (y + 1) (omega arith)) refl)
              (λ h. rw (e, ne_eqb x y (λ q. let z : x ≡ y = q in absurd (omega arith)), le-ltb x (y + 1) (omega arith)) refl)
              (eq-or-lt_of_le l)
        ]) refl

-- none is before 0
pub below_first : (a : ℕ → ℕ) (n : ℕ) → how_many (λ q. ltb (a q) 0) n ≡ 0
below_first a n = how_many_sum (λ q. ltb (a q) 0) n ∙ sum_zero (λ q. cond (ltb (a q) 0) 1 0) n (λ q l. rw (le-ltb (a q) 0 (omega arith)))

-- the runs that have y, and those that ended by then, are those that began by then
pub cover_edges : (a b : ℕ → ℕ) (y n : ℕ) → ((q : ℕ) → a q ≤ b q)
    → how_many (λ q. leb (a q) y && ltb y (b q)) n + how_many (λ q. ltb (b q) (y + 1)) n ≡ how_many (λ q. ltb (a q) (y + 1)) n
cover_edges a b y n h = how_many_split (λ q. leb (a q) y && ltb y (b q)) (λ q. ltb (b q) (y + 1)) (λ q. ltb (a q) (y + 1)) n (λ q. one (a q) (b q) (h q))
  where
    one : (u v : ℕ) → u ≤ v → cond (leb u y && ltb y v) 1 0 + cond (ltb v (y + 1)) 1 0 ≡ cond (ltb u (y + 1)) 1 0
    one u v l =
        (elim (leb u y) as (λ c. leb u y ≡ c → cond (leb u y && ltb y v) 1 0 + cond (ltb v (y + 1)) 1 0 ≡ cond (ltb u (y + 1)) 1 0) [
          | true ↦ λ e.
              let f : u ≤ y = leb-true u y e in
              (elim (ltb y v) as (λ c. ltb y v ≡ c → cond (leb u y && ltb y v) 1 0 + cond (ltb v (y + 1)) 1 0 ≡ cond (ltb u (y + 1)) 1 0) [
                | true ↦ λ d. let g : y < v = ltb-true y v d in rw (e, d, le-ltb v (y + 1) (omega arith), lt-ltb u (y + 1) (omega arith)) refl
                | false ↦ λ d. let g : v ≤ y = ltb-false y v d in rw (e, d, lt-ltb v (y + 1) (omega arith), lt-ltb u (y + 1) (omega arith)) refl
              ]) refl
          | false ↦ λ e. let f : y < u = leb-false u y e in rw (e, le-ltb v (y + 1) (omega arith), le-ltb u (y + 1) (omega arith)) refl
        ]) refl

-- a count that goes on twice or more
pub count_twice : (n c : ℕ) → repeat counted_once (suc (suc n)) c ≡ 2
unfolding repeat
count_twice zero c =
    (elim (eqb c 0) as (λ b. eqb c 0 ≡ b → counted_once (counted_once c) ≡ 2) [
      | true ↦ λ e. rw e
      | false ↦ λ e. rw e
    ]) refl
count_twice (suc n) c = rw (count_twice n c)

-- one index more
pub indices_more : (f : ℕ → ℕ) (t₀ t t' : List ℕ) (g c : ℕ → ℕ) (y w k : ℕ) → w ≡ g y → k ≡ c y → MarkedTimes f (λ x. sum (λ j. cond (eqb (g j) x) (c j) 0) y) t₀ t
    → Filled (λ z. cond (eqb w z) (repeat f k (get_or t z 0)) (get_or t z 0)) t t' → MarkedTimes f (λ x. sum (λ j. cond (eqb (g j) x) (c j) 0) (y + 1)) t₀ t'
unfolding sum repeat
indices_more f t₀ t t' g c y w k ew ek before now = (
  now.0 ∙ before.0,
  λ x l.
      now.1 x l
      ∙ ap₂ (λ (v n : ℕ). cond (eqb v x) (repeat f n (get_or t x 0)) (get_or t x 0)) ew ek
      ∙ ap (λ (d : ℕ). cond (eqb (g y) x) (repeat f (c y) d) d) (before.1 x (rw now.0 at l))
      ∙ step (eqb (g y) x) (sum (λ j. cond (eqb (g j) x) (c j) 0) y) (get_or t₀ x 0)
      ∙ ap (λ (n : ℕ). repeat f (sum (λ j. cond (eqb (g j) x) (c j) 0) n) (get_or t₀ x 0)) (sym (add-one y)),
)
  where
    step : (b : Bool) (n d : ℕ) → cond b (repeat f (c y) (repeat f n d)) (repeat f n d) ≡ repeat f (n + cond b (c y) 0) d
    step true n d = sym (repeat_add f n (c y) d)
    step false n d = ap (λ (k : ℕ). repeat f k d) (sym (add-zero n))

-- counting up from 0 in a word, which doesn't wrap
pub counted_up : (n : ℕ) → n < 65536 → repeat (λ (c : ℕ). (c + 1) % 65536) n 0 ≡ n
unfolding repeat
counted_up zero l = refl
counted_up (suc n) l = let before = counted_up n (omega arith) in ap (λ (c : ℕ). (c + 1) % 65536) before ∙ wrapped n l
  where
    wrapped : (n : ℕ) → suc n < 65536 → (n + 1) % 65536 ≡ suc n
    wrapped n l = omega arith

module _ (s : Sheet) where
  -- what a record names is what the indices of its run name
  item_index : (kind : Naming) (q i : ℕ) → i < items s kind q → named_at s kind (run_begin s kind q + i) ≡ item s kind q i
  item_index ContentObjects q i l = let e : i ≡ 0 = omega arith in rw (e, add-zero)
  item_index Children q i l = unfold entry in refl
  item_index Complements q i l = unfold entry in refl
  item_index ContentLists q i l = unfold entry in refl
  item_index Included q i l = unfold entry in refl
  item_index SetLists q i l = unfold entry in refl
  item_index SetSpans q i l = refl

  -- how often a record is named, by the cover
  pub named_cover : (kind : Naming) (m : ℕ) → Reaching s kind m
      → (x : ℕ) → sum (λ y. cond (eqb (named_at s kind y) x) (cover s kind y) 0) m ≡ named_by s kind x
  unfolding cover run_end named_by times_by
  named_cover kind m h x =
      cover_sum (λ y. eqb (named_at s kind y) x) (run_begin s kind) (items s kind) m (namers s kind) h
      ∙ sum_eq (λ q. how_many (λ i. eqb (named_at s kind (run_begin s kind q + i)) x) (items s kind q)) (λ q. how_many (λ i. eqb (item s kind q i) x) (items s kind q)) (namers s kind)
      (λ q l. how_many_eq (λ i. eqb (named_at s kind (run_begin s kind q + i)) x) (λ i. eqb (item s kind q i) x) (items s kind q)
      (λ i h. ap (λ (z : ℕ). eqb z x) (item_index kind q i h)))

  -- the runs that have an index, and those that ended by then, are those that began by then
  pub covered : (kind : Naming) (y : ℕ)
      → cover s kind y + how_many (λ q. ltb (run_end s kind q) (y + 1)) (namers s kind) ≡ how_many (λ q. ltb (run_begin s kind q) (y + 1)) (namers s kind)
  unfolding cover
  covered kind y = cover_edges (run_begin s kind) (run_end s kind) y (namers s kind) (λ q. unfold run_end in omega arith)
