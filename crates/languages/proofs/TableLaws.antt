-- The table while it is filled: it tells of the words that were marked. Assumes nothing.
use Rattle.std.proofs.Common.{ℕ, eqb, leb, ltb, ◌+◌, ◌<◌, ◌≤◌, ◌≡◌, refl, sym, ap, ◌∙◌, Bool, true, false, ◌&&◌, ◌||◌, List, length, get_or, set, length-set, replicate, arith}
use native.Mathlib.Numerals.{add-one}
use Rattle.std.proofs.lemmas.List.{get_or-replicate, length-replicate}
use lib.Seq.{get_or-set_same, get_or-set_other}
use borrow.Author.Tests.{ne_eqb, eqb-true, eqb-false, lt-ltb, ltb-true, ltb-false, leb-true, leb-false, le-ltb}
use Rattle.std.proofs.Math.Bool.{and-false, and-true, or_assoc}
use Rattle.values.specs.Language.{three_letters}
use Rattle.profile.specs.Counting.{any}
use Rattle.profile.specs.Languages.{is_listed, is_reserved}
use Rattle.profile.proofs.BoolLaws.{or_true, or_false}
use Rattle.profile.proofs.CountingLaws.{any_none}
use Rattle.profile.proofs.GroupLaws.{any_witness}
use Rattle.profile.proofs.SumLaws.{any_one, any_nowhere}
use Rattle.languages.specs.steps.Table.{Tabled}
use Rattle.languages.proofs.GoodLaws.{found_good}
use Rattle.languages.proofs.ReservedLaws.{between}

-- the codes of three letters among the words that were marked
abbrev pub TableOf : (ℕ → Bool) → List Bool → Type 0
TableOf marked table = (x : ℕ) → x < length table → get_or table x false ≡ (three_letters x && marked x)

-- a table after a mark
abbrev pub mark : List Bool → ℕ → List Bool
mark table w = set table w (three_letters w)

-- the words from the first of q on that were marked before w
abbrev pub from_q : ℕ → ℕ → Bool
from_q w x = leb 17408 x && ltb x w

-- the words of the list before index n, and those that are reserved
abbrev pub before : List ℕ → ℕ → ℕ → Bool
before langs n x = any (λ i. eqb (get_or langs i 0) x) n

abbrev pub marked_before : List ℕ → ℕ → ℕ → Bool
marked_before langs n x = is_reserved x || before langs n x

-- marked by another test that tells the same
table_as : (p q : ℕ → Bool) (table : List Bool) → ((x : ℕ) → p x ≡ q x) → TableOf p table → TableOf q table
table_as p q table same was x l = was x l ∙ ap (λ (b : Bool). three_letters x && b) (same x)

-- one word more
pub table_more : (p : ℕ → Bool) (table : List Bool) (w : ℕ) → w < length table → TableOf p table → TableOf (λ x. p x || eqb w x) (mark table w)
table_more p table w near was x l =
    (elim (eqb w x) as (λ b. eqb w x ≡ b → get_or (mark table w) x false ≡ (three_letters x && (p x || eqb w x))) [
      | true ↦ λ e.
          let z : w ≡ x = eqb-true w x e in
          let at : get_or (mark table w) x false ≡ three_letters x = rw (← z) (get_or-set_same table w (three_letters w) false near) in
          at ∙ rw (e, or_true (p x)) (sym (and-true (three_letters x)))
      | false ↦ λ e.
          get_or-set_other table w x (three_letters w) false (λ h. let z : x ≡ w = h in eqb-false w x e (sym z))
          ∙ was x (rw (length-set table w (three_letters w)) at l)
          ∙ ap (λ (b : Bool). three_letters x && b) (rw e (sym (or_false (p x))))
    ]) refl

-- no word of q yet
pub table_first : (m : ℕ) → TableOf (from_q 17408) (replicate m false)
table_first m x l = get_or-replicate m x false false (rw length-replicate at l) ∙ rw (none x) (sym (and-false (three_letters x)))
  where
    none : (x : ℕ) → from_q 17408 x ≡ false
    none x =
        (elim (leb 17408 x) as (λ b. leb 17408 x ≡ b → (b && ltb x 17408) ≡ false) [
          | true ↦ λ e. le-ltb x 17408 (leb-true _ _ e)
          | false ↦ λ e. refl
        ]) refl

-- one more
below_next : (x w : ℕ) → 17408 ≤ w → (from_q w x || eqb w x) ≡ from_q (w + 1) x
below_next x w from =
    (elim (leb 17408 x) as (λ b. leb 17408 x ≡ b → ((b && ltb x w) || eqb w x) ≡ (b && ltb x (w + 1))) [
      | true ↦ λ e.
          (elim (ltb x w) as (λ b. ltb x w ≡ b → (b || eqb w x) ≡ ltb x (w + 1)) [
            | true ↦ λ f. sym (lt-ltb x (w + 1) (omega (arith, ltb-true _ _ f)))
            | false ↦ λ f.
                (elim (eqb w x) as (λ b. eqb w x ≡ b → b ≡ ltb x (w + 1)) [
                  | true ↦ λ g. sym (lt-ltb x (w + 1) (omega (arith, eqb-true _ _ g)))
                  | false ↦ λ g. sym (le-ltb x (w + 1) (omega (arith, ltb-false _ _ f, eqb-false _ _ g)))
                ]) refl
          ]) refl
      | false ↦ λ e. let low = leb-false _ _ e in ne_eqb w x (λ q. let z : w ≡ x = q in omega (arith, low, from, z))
    ]) refl

pub table_next : (table : List Bool) (w : ℕ) → w < length table → 17408 ≤ w → TableOf (from_q w) table → TableOf (from_q (w + 1)) (mark table w)
table_next table w near from was = table_as (λ x. from_q w x || eqb w x) (from_q (w + 1)) (mark table w) (λ x. below_next x w from) (table_more (from_q w) table w near was)

-- all that are reserved, and none of the list's yet
pub table_reserved : (langs : List ℕ) (table : List Bool) → TableOf (from_q 18080) table → TableOf (marked_before langs 0) table
unfolding any
table_reserved langs table was = table_as (from_q 18080) (marked_before langs 0) table (λ x. between x ∙ sym (or_false (is_reserved x))) was

-- one word more of the list
pub table_listed : (langs : List ℕ) (table : List Bool) (n : ℕ) → get_or langs n 0 < length table
    → TableOf (marked_before langs n) table → TableOf (marked_before langs (n + 1)) (mark table (get_or langs n 0))
unfolding any
table_listed langs table n near was =
    let w = get_or langs n 0 in
    table_as (λ x. marked_before langs n x || eqb w x) (marked_before langs (n + 1)) (mark table w)
    (λ x. rw add-one (or_assoc (is_reserved x) (before langs n x) (eqb w x)))
    (table_more (marked_before langs n) table w near was)

-- the list's words from an index on are past the table
abbrev pub Past : List ℕ → ℕ → Type 0
Past langs n = (i : ℕ) → n ≤ i → i < length langs → 27482 < get_or langs i 0

-- then a word that the table reaches is listed before that index or not at all
far_none : (x : ℕ) → x < 27483 → (langs : List ℕ) (n : ℕ) → n ≤ length langs → Past langs n → before langs n x ≡ is_listed langs x
unfolding is_listed
far_none x l langs n m past =
    (elim (before langs n x) as (λ b. before langs n x ≡ b → b ≡ before langs (length langs) x) [
      | true ↦ λ e. let k = any_witness (λ i. eqb (get_or langs i 0) x) n e in sym (any_one (λ i. eqb (get_or langs i 0) x) (length langs) k.0 (omega (arith, k.1, m)) k.2)
      | false ↦ λ e. sym (any_nowhere (λ i. eqb (get_or langs i 0) x) (length langs) (λ k h. none e k h (ltb k n) refl))
    ]) refl
  where
    none : before langs n x ≡ false → (k : ℕ) → k < length langs → (b : Bool) → ltb k n ≡ b → eqb (get_or langs k 0) x ≡ false
    none e k h true q = any_none (λ i. eqb (get_or langs i 0) x) n e k (ltb-true _ _ q)
    none e k h false q = ne_eqb _ _ (λ z. let same : get_or langs k 0 ≡ x = z in omega (arith, past k (ltb-false _ _ q) h, same, l))

-- and the table is whole
pub table_good : (langs : List ℕ) (table : List Bool) (n : ℕ) → length table ≡ 27483 → n ≤ length langs → Past langs n → TableOf (marked_before langs n) table → Tabled langs table
table_good langs table n long m past was x l =
    was x l ∙ ap (λ (b : Bool). three_letters x && (is_reserved x || b)) (far_none x (rw long at l) langs n m past) ∙ found_good langs x
