-- What a pass over namings keeps of a table. Assumes nothing.
use Prim.Native.Nat.{ℕ, zero, suc, ◌+◌, ◌<◌, ◌≤◌}
use mathlib.Core.Path.{◌≡◌, refl, sym, ap, ◌∙◌}
use mathlib.Core.Bool.{Bool, true, false, cond, not}
use mathlib.Core.List.{List}
use native.Mathlib.Omega.{arith}
use native.Mathlib.Nat.{add-zero}
use native.Mathlib.Numerals.{add-one}
use borrow.Author.Tests.{eqb-true, ne_eqb, eqb-false}
use lib.Dec.{eqb}
use lib.ListN.{length, get_or, set, replicate, length-set}
use lib.Seq.{get_or-set_same, get_or-set_other}
use Rattle.sheet.specs.Words.{Sheet}
use Rattle.profile.specs.Counting.{how_many, sum}
use Rattle.profile.proofs.CountingLaws.{any_how_many}
use Rattle.tables.specs.declared.Naming.{Naming}
use Rattle.tables.specs.steps.Namings.{items, item}
use Rattle.tables.specs.steps.Marks.{Standing, MarkedTimes, first_stored, repeat, times_by, named_before, names_by, first_from}

-- so many times, and so many again
pub repeat_add : (f : ℕ → ℕ) (a b c : ℕ) → repeat f (a + b) c ≡ repeat f b (repeat f a c)
unfolding repeat
repeat_add f a zero c = ap (λ (n : ℕ). repeat f n c) (add-zero a)
repeat_add f a (suc b) c =
    let e : a + suc b ≡ suc (a + b) = omega arith in
    ap (λ (n : ℕ). repeat f n c) e ∙ ap f (repeat_add f a b c)

-- one time more, where a test holds
pub repeat_more : (f : ℕ → ℕ) (p : ℕ → Bool) (n c : ℕ) → cond (p n) (f (repeat f (how_many p n) c)) (repeat f (how_many p n) c) ≡ repeat f (how_many p (n + 1)) c
unfolding how_many repeat
repeat_more f p n c =
    (elim (p n) as (λ b. p n ≡ b → cond (p n) (f (repeat f (how_many p n) c)) (repeat f (how_many p n) c) ≡ repeat f (how_many p (n + 1)) c) [
      | true ↦ λ e. let z : how_many p n + 1 ≡ suc (how_many p n) = add-one (how_many p n) in rw (add-one n, e, z)
      | false ↦ λ e. let z : how_many p n + 0 ≡ how_many p n = add-zero (how_many p n) in rw (add-one n, e, z)
    ]) refl

-- a number stored so many times
pub repeat_store : (v n c : ℕ) → repeat (λ (c : ℕ). v) n c ≡ cond (eqb n 0) c v
unfolding repeat
repeat_store v zero c = refl
repeat_store v (suc n) c = rw (ne_eqb (suc n) 0 (λ q. let z : suc n ≡ 0 = q in omega arith))

-- one place is written
pub set_standing : (t : List ℕ) (y v : ℕ) (g : ℕ → ℕ) → ((x : ℕ) → x < length t → cond (eqb y x) v (get_or t x 0) ≡ g x)
    → (x : ℕ) → x < length t → get_or (set t y v) x 0 ≡ g x
set_standing t y v g h x l =
    (elim (eqb y x) as (λ b. eqb y x ≡ b → get_or (set t y v) x 0 ≡ g x) [
      | true ↦ λ e. let q : y ≡ x = eqb-true y x e in ap (λ (z : ℕ). get_or (set t y v) z 0) (sym q) ∙ get_or-set_same t y v 0 (rw q l) ∙ sym (ap (λ (b : Bool). cond b v (get_or t x 0)) e) ∙ h x l
      | false ↦ λ e. get_or-set_other t y x v 0 (λ q. eqb-false y x e (sym q)) ∙ sym (ap (λ (b : Bool). cond b v (get_or t x 0)) e) ∙ h x l
    ]) refl

-- one place has what f makes of it
pub mark_standing : (t : List ℕ) (y : ℕ) (f : ℕ → ℕ) (v : ℕ) → y < length t → v ≡ f (get_or t y 0)
    → Standing (λ z. cond (eqb y z) (f (get_or t z 0)) (get_or t z 0)) (set t y v)
mark_standing t y f v l e x h =
    set_standing t y v (λ z. cond (eqb y z) (f (get_or t z 0)) (get_or t z 0))
    (λ z k. ap (λ (w : ℕ). cond (eqb y z) w (get_or t z 0)) e ∙ same z)
    x (rw (length-set t y v) at h)
  where
    same : (z : ℕ) → cond (eqb y z) (f (get_or t y 0)) (get_or t z 0) ≡ cond (eqb y z) (f (get_or t z 0)) (get_or t z 0)
    same z =
        (elim (eqb y z) as (λ b. eqb y z ≡ b → cond b (f (get_or t y 0)) (get_or t z 0) ≡ cond b (f (get_or t z 0)) (get_or t z 0)) [
          | true ↦ λ e. ap (λ (w : ℕ). f (get_or t w 0)) (eqb-true y z e)
          | false ↦ λ e. refl
        ]) refl

-- one past the end is passed over
pub past_standing : (t : List ℕ) (y : ℕ) (f : ℕ → ℕ) → length t ≤ y → Standing (λ z. cond (eqb y z) (f (get_or t z 0)) (get_or t z 0)) t
past_standing t y f l x h = rw (ne_eqb y x (λ q. let z : y ≡ x = q in omega arith)) refl

module _ (f : ℕ → ℕ) (t₀ t t' : List ℕ) (long : length t' ≡ length t) where
  -- one item more
  pub items_more : (g : ℕ → ℕ) (i y : ℕ) → y ≡ g i → Standing (λ x. repeat f (how_many (λ j. eqb (g j) x) i) (get_or t₀ x 0)) t
      → Standing (λ z. cond (eqb y z) (f (get_or t z 0)) (get_or t z 0)) t' → Standing (λ x. repeat f (how_many (λ j. eqb (g j) x) (i + 1)) (get_or t₀ x 0)) t'
  items_more g i y e before now x l =
      now x l
      ∙ ap (λ (c : ℕ). cond (eqb y x) (f c) c) (before x (rw long at l))
      ∙ ap (λ (w : ℕ). cond (eqb w x) (f (repeat f (how_many (λ j. eqb (g j) x) i) (get_or t₀ x 0))) (repeat f (how_many (λ j. eqb (g j) x) i) (get_or t₀ x 0))) e
      ∙ repeat_more f (λ j. eqb (g j) x) i (get_or t₀ x 0)

-- one record more
pub namers_more : (f : ℕ → ℕ) (s : Sheet) (kind : Naming) (t₀ t t' : List ℕ) (q : ℕ) → MarkedTimes f (named_before s kind q) t₀ t → MarkedTimes f (times_by s kind q) t t'
    → MarkedTimes f (named_before s kind (q + 1)) t₀ t'
unfolding sum
namers_more f s kind t₀ t t' q before now = (
  now.0 ∙ before.0,
  λ x l.
      now.1 x l
      ∙ ap (repeat f (times_by s kind q x)) (before.1 x (rw now.0 at l))
      ∙ sym (repeat_add f (named_before s kind q x) (times_by s kind q x) (get_or t₀ x 0))
      ∙ ap (λ (n : ℕ). repeat f (named_before s kind n x) (get_or t₀ x 0)) (sym (add-one q)),
)

-- the records from q on, and the one before them
pub first_more : (s : Sheet) (kind : Naming) (t₀ t t' : List ℕ) (q n : ℕ) → length t' ≡ length t
    → Standing (λ x. first_from (λ j. names_by s kind j x) (get_or t₀ x 0) (suc q) n) t
    → Standing (λ x. repeat (λ (c : ℕ). (suc q)) (times_by s kind q x) (get_or t x 0)) t'
    → Standing (λ x. first_from (λ j. names_by s kind j x) (get_or t₀ x 0) q (suc n)) t'
unfolding first_from names_by times_by
first_more s kind t₀ t t' q n long before now x l =
    now x l
    ∙ repeat_store (suc q) (times_by s kind q x) (get_or t x 0)
    ∙ ap (λ (c : ℕ). cond (eqb (times_by s kind q x) 0) c (suc q)) (before x (rw long at l))
    ∙ swap (eqb (times_by s kind q x) 0) (first_from (λ j. names_by s kind j x) (get_or t₀ x 0) (suc q) n) (suc q)
    ∙ ap (λ (b : Bool). cond b (suc q) (first_from (λ j. names_by s kind j x) (get_or t₀ x 0) (suc q) n)) (sym (any_how_many (λ i. eqb (item s kind q i) x) (items s kind q)))
  where
    swap : (b : Bool) (c d : ℕ) → cond b c d ≡ cond (not b) d c
    swap true c d = refl
    swap false c d = refl

-- one more is not 0
above_zero : (n : ℕ) → eqb (suc n) 0 ≡ false
above_zero n = ne_eqb (suc n) 0 (λ q. let z : suc n ≡ 0 = q in omega arith)

-- the first of n numbers and of one more
first_then : (p : ℕ → Bool) (i n : ℕ) → first_from p 0 i (suc n) ≡ cond (eqb (first_from p 0 i n) 0) (cond (p (i + n)) (suc (i + n)) 0) (first_from p 0 i n)
unfolding first_from
first_then p i zero = ap (λ (m : ℕ). cond (p m) (suc m) 0) (sym (add-zero i))
first_then p i (suc n) =
    let e : suc i + n ≡ i + suc n = omega arith in
    (elim (p i) as (λ b. cond b (suc i) (first_from p 0 (suc i) (suc n)) ≡ cond (eqb (cond b (suc i) (first_from p 0 (suc i) n)) 0) (cond (p (i + suc n)) (suc (i + suc n)) 0) (cond b (suc i) (first_from p 0 (suc i) n))) [
      | true ↦ rw (above_zero i) refl
      | false ↦ first_then p (suc i) n ∙ ap (λ (m : ℕ). cond (eqb (first_from p 0 (suc i) n) 0) (cond (p m) (suc m) 0) (first_from p 0 (suc i) n)) e
    ])

-- a number written where 0 stands, and again
written_again : (v c : ℕ) → cond (eqb (cond (eqb c 0) (suc v) c) 0) (suc v) (cond (eqb c 0) (suc v) c) ≡ cond (eqb c 0) (suc v) c
written_again v c =
    (elim (eqb c 0) as (λ b. eqb c 0 ≡ b → cond (eqb (cond b (suc v) c) 0) (suc v) (cond b (suc v) c) ≡ cond b (suc v) c) [
      | true ↦ λ e. rw (above_zero v) refl
      | false ↦ λ e. rw e refl
    ]) refl

-- so many times
repeat_first : (v n c : ℕ) → repeat (first_stored (suc v)) n c ≡ cond (eqb n 0) c (cond (eqb c 0) (suc v) c)
unfolding repeat
repeat_first v zero c = refl
repeat_first v (suc zero) c = refl
repeat_first v (suc (suc n)) c =
    rw (above_zero (suc n)) (ap (λ (w : ℕ). cond (eqb w 0) (suc v) w) (repeat_first v (suc n) c ∙ ap (λ (b : Bool). cond b c (cond (eqb c 0) (suc v) c)) (above_zero n)) ∙ written_again v c)

-- one record more, which leaves what an earlier one wrote
pub first_next : (s : Sheet) (kind : Naming) (t t' : List ℕ) (q : ℕ) → length t' ≡ length t → Standing (λ x. first_from (λ j. names_by s kind j x) 0 0 q) t
    → Standing (λ x. repeat (first_stored (suc q)) (times_by s kind q x) (get_or t x 0)) t' → Standing (λ x. first_from (λ j. names_by s kind j x) 0 0 (q + 1)) t'
unfolding names_by times_by
first_next s kind t t' q long before now x l =
    now x l
    ∙ repeat_first q (times_by s kind q x) (get_or t x 0)
    ∙ ap (λ (c : ℕ). cond (eqb (times_by s kind q x) 0) c (cond (eqb c 0) (suc q) c)) (before x (rw long at l))
    ∙ kept (times_by s kind q x) (first_from (λ j. names_by s kind j x) 0 0 q)
    ∙ ap (λ (b : Bool). cond (eqb (first_from (λ j. names_by s kind j x) 0 0 q) 0) (cond b (suc q) 0) (first_from (λ j. names_by s kind j x) 0 0 q)) (sym (any_how_many (λ i. eqb (item s kind q i) x) (items s kind q)))
    ∙ ap (λ (m : ℕ). cond (eqb (first_from (λ j. names_by s kind j x) 0 0 q) 0) (cond (names_by s kind m x) (suc m) 0) (first_from (λ j. names_by s kind j x) 0 0 q)) from_zero
    ∙ sym (first_then (λ j. names_by s kind j x) 0 q)
    ∙ ap (first_from (λ j. names_by s kind j x) 0 0) (sym (add-one q))
  where
    from_zero : q ≡ 0 + q
    from_zero = omega arith

    kept : (n c : ℕ) → cond (eqb n 0) c (cond (eqb c 0) (suc q) c) ≡ cond (eqb c 0) (cond (not (eqb n 0)) (suc q) 0) c
    kept n c =
        (elim (eqb n 0) as (λ a. cond a c (cond (eqb c 0) (suc q) c) ≡ cond (eqb c 0) (cond (not a) (suc q) 0) c) [
          | true ↦ (elim (eqb c 0) as (λ b. eqb c 0 ≡ b → c ≡ cond b 0 c) [
            | true ↦ λ e. eqb-true c 0 e
            | false ↦ λ e. refl
          ]) refl
          | false ↦ refl
        ])

-- a table of noughts
pub nought : (n x : ℕ) → ◌≡◌ {A = ℕ} (get_or (replicate n 0) x 0) 0
nought zero x = refl
nought (suc n) zero = refl
nought (suc n) (suc x) = nought n x
