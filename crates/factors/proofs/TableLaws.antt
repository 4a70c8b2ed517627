-- The test of the table, and what it says of each entry. Assumes nothing.
use Prim.Native.Nat.{ℕ, zero, suc, ◌+◌, ◌<◌, ◌≤◌}
use mathlib.Core.Path.{◌≡◌, refl, ap}
use mathlib.Core.Bool.{true}
use mathlib.Core.List.{List, [], ◌∷◌}
use mathlib.Core.Logic.{⊎_elim}
use native.Mathlib.Omega.{arith}
use native.Mathlib.Nat.{eq-or-lt_of_le}
use borrow.Author.Tests.{ltb-true}
use lib.Dec.{ltb}
use lib.ListN.{length, get_or}
use Rattle.std.proofs.lemmas.Bool.{and_parts}
use Rattle.factors.specs.Table.{entries}
use Rattle.factors.specs.Decibels.{exponent, is_within, is_largest, tenth_at, largest_from, keeps_rule, rises_from}

-- "The rule is shown by one test over all entries"
pub rule_kept : keeps_rule entries ≡ true
unfolding entries exponent is_within is_largest tenth_at largest_from keeps_rule
rule_kept = refl

-- and that they rise
rise_kept : rises_from 0 entries ≡ true
unfolding entries rises_from
rise_kept = refl

pub all_there : length entries ≡ 811
unfolding entries
all_there = refl

-- what the test says of the entry at a place
largest_at : (k : ℕ) (ns : List ℕ) → largest_from k ns ≡ true → (i : ℕ) → i < length ns → is_largest (get_or ns i 0) (tenth_at (k + i)) ≡ true
unfolding largest_from
largest_at k [] h i l = absurd (omega arith)
largest_at k (n ∷ ns) h zero l = let e : k + 0 ≡ k = omega arith in rw e (and_parts (is_largest n (tenth_at k)) (largest_from (suc k) ns) h).0
largest_at k (n ∷ ns) h (suc i) l =
    let e : k + suc i ≡ suc k + i = omega arith in
    rw e (largest_at (suc k) ns (and_parts (is_largest n (tenth_at k)) (largest_from (suc k) ns) h).1 i (omega arith))

pub entry_largest : (k : ℕ) → k < 811 → is_largest (get_or entries k 0) (tenth_at k) ≡ true
unfolding keeps_rule
entry_largest k l =
    let e : 0 + k ≡ k = omega arith in
    rw e at (largest_at 0 entries rule_kept k (rw all_there l))

-- the numbers of a list that rises from m on are above m, and each is above those before it
above_first : (m : ℕ) (ns : List ℕ) → rises_from m ns ≡ true → (i : ℕ) → i < length ns → m < get_or ns i 0
unfolding rises_from
above_first m [] h i l = absurd (omega arith)
above_first m (n ∷ ns) h zero l = ltb-true m n (and_parts (ltb m n) (rises_from n ns) h).0
above_first m (n ∷ ns) h (suc i) l =
    let b = and_parts (ltb m n) (rises_from n ns) h in omega (arith, ltb-true m n b.0, above_first n ns b.1 i (omega arith))

above_earlier : (m : ℕ) (ns : List ℕ) → rises_from m ns ≡ true → (i j : ℕ) → i < j → j < length ns → get_or ns i 0 < get_or ns j 0
unfolding rises_from
above_earlier m [] h i j l f = absurd (omega arith)
above_earlier m (n ∷ ns) h zero zero l f = absurd (omega arith)
above_earlier m (n ∷ ns) h zero (suc j) l f = above_first n ns (and_parts (ltb m n) (rises_from n ns) h).1 j (omega arith)
above_earlier m (n ∷ ns) h (suc i) zero l f = absurd (omega arith)
above_earlier m (n ∷ ns) h (suc i) (suc j) l f = above_earlier n ns (and_parts (ltb m n) (rises_from n ns) h).1 i j (omega arith) (omega arith)

-- the entries rise
pub entries_rise : (i j : ℕ) → i < j → j < length entries → get_or entries i 0 < get_or entries j 0
entries_rise i j l f = above_earlier 0 entries rise_kept i j l f

pub entries_not_falling : (i j : ℕ) → i ≤ j → j < length entries → get_or entries i 0 ≤ get_or entries j 0
entries_not_falling i j l f =
    ⊎_elim (λ z. let e : i ≡ j = z in omega (arith, ap (λ k. get_or entries k 0) e)) (λ h. omega (arith, entries_rise i j h f)) (eq-or-lt_of_le l)
