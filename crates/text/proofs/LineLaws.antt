-- Where a line ends, and its fields: the runs of bytes that are not blank. Assumes nothing.
use Prim.Native.Nat.{ℕ, suc, ◌+◌, ◌-◌, ◌≤◌, ◌<◌}
use mathlib.Core.Path.{◌≡◌, refl, ap, ◌∙◌}
use mathlib.Core.Bool.{Bool, true, false, cond, not}
use mathlib.Core.List.{List, [], ◌∷◌, ◌++◌, append_assoc, append-nil}
use native.Mathlib.Omega.{arith}
use lib.Dec.{eqb, ltb}
use lib.ListN.{length, take, drop, length-drop, drop_of_length-le}
use Rattle.std.specs.Prelude.{Option, Some, None, unwrap_or}
use Rattle.std.specs.List.{position_or_len, slice_range}
use borrow.Author.Tests.{ltb-false, ltb-true}
use lib.Seq.{take_all}
use Rattle.std.proofs.lemmas.List.Sums.{prefix_len-le-length}
use Rattle.text.specs.Lines.{line_end, is_blank, ended, fields_from, fields}

-- where a line ends, as an iterator gives the first newline of the rest
first_or_end : (test : ℕ → Bool) (s : List ℕ) → unwrap_or (cond (ltb (position_or_len test s) (length s)) (Some (position_or_len test s)) None) (length s) ≡ position_or_len test s
first_or_end test s =
    (elim (ltb (position_or_len test s) (length s)) as (λ t. ltb (position_or_len test s) (length s) ≡ t → unwrap_or (cond t (Some (position_or_len test s)) None) (length s) ≡ position_or_len test s) [
      | true ↦ λ q. refl
      | false ↦ λ q. omega (arith, ltb-false _ _ q, prefix_len-le-length (λ b. not (test b)) s)
    ]) refl

pub ends_at : (s rest : List ℕ) (at n : ℕ) (r : Option ℕ) → at ≤ length s → rest ≡ slice_range s at (length s)
    → r ≡ cond (ltb (position_or_len (λ b. eqb b 10) rest) (length rest)) (Some (position_or_len (λ b. eqb b 10) rest)) None → n ≡ unwrap_or r (length rest)
    → (at + n ≡ line_end s at) × (at ≤ at + n) × (at + n ≤ length s)
unfolding line_end
ends_at s rest at n r l e f g =
    let whole : rest ≡ drop at s = e ∙ take_all (length s - at) (drop at s) (simp length-drop (omega arith)) in
    let first : n ≡ position_or_len (λ b. eqb b 10) (drop at s) = g ∙ rw (f, first_or_end (λ b. eqb b 10) rest, whole) refl in
    (rw first refl, omega arith, omega (arith, first, prefix_len-le-length (λ b. not (eqb b 10)) (drop at s), length-drop at s))

-- where a test first passes, as an iterator gives it
pub passes_at : (test : ℕ → Bool) (s : List ℕ) (n : ℕ)
    → Some n ≡ cond (ltb (position_or_len test s) (length s)) (Some (position_or_len test s)) None → (n ≡ position_or_len test s) × (n < length s)
passes_at test s n =
    (elim (ltb (position_or_len test s) (length s)) as (λ t. ltb (position_or_len test s) (length s) ≡ t → Some n ≡ cond t (Some (position_or_len test s)) None → (n ≡ position_or_len test s) × (n < length s)) [
      | true ↦ λ q e. let n : n ≡ position_or_len test s = cc in (n, omega (arith, ltb-true _ _ q))
      | false ↦ λ q e. cc
    ]) refl

pub passes_nowhere : (test : ℕ → Bool) (s : List ℕ)
    → None ≡ cond (ltb (position_or_len test s) (length s)) (Some (position_or_len test s)) None → length s ≤ position_or_len test s
passes_nowhere test s =
    (elim (ltb (position_or_len test s) (length s)) as (λ t. ltb (position_or_len test s) (length s) ≡ t → None ≡ cond t (Some (position_or_len test s)) None → length s ≤ position_or_len test s) [
      | true ↦ λ q e. cc
      | false ↦ λ q e. ltb-false _ _ q
    ]) refl

-- the rest of a begun field, and the fields behind it
run : (f s : List ℕ) → fields_from f s ≡ ended (f ++ take (position_or_len is_blank s) s) (fields (drop (position_or_len is_blank s) s))
unfolding fields_from fields
run f [] = rw (append-nil f) refl
run f (b ∷ s) =
    let more : 1 + position_or_len is_blank s ≡ suc (position_or_len is_blank s) = omega arith in
    (elim (is_blank b) as (λ t. is_blank b ≡ t → fields_from f (b ∷ s) ≡ ended (f ++ take (cond (not t) (1 + position_or_len is_blank s) 0) (b ∷ s)) (fields (drop (cond (not t) (1 + position_or_len is_blank s) 0) (b ∷ s)))) [
      | true ↦ λ e. rw (append-nil f) (rw e refl)
      | false ↦ λ e. rw (e, more) (run (f ++ (b ∷ [])) s ∙ rw (append_assoc f (b ∷ []) (take (position_or_len is_blank s) s)) refl)
    ]) refl

abbrev pub in_field : ℕ → Bool
in_field b = not (is_blank b)

-- blanks alone are no field
pub no_field : (s : List ℕ) → length s ≤ position_or_len in_field s → fields s ≡ []
unfolding fields_from fields
no_field [] = λ h. refl
no_field (b ∷ s) =
    (elim (is_blank b) as (λ t. is_blank b ≡ t → suc (length s) ≤ cond (not (not t)) (1 + position_or_len in_field s) 0 → fields (b ∷ s) ≡ []) [
      | true ↦ λ e h. rw e (no_field s (omega arith))
      | false ↦ λ e h. absurd (omega arith)
    ]) refl

-- the first field of a line, by the line from a byte on: it has a byte, and ends before the first blank
abbrev Begins : List ℕ → List ℕ → Type 0
Begins s from =
    (fields s ≡ take (position_or_len is_blank from) from ∷ fields (drop (position_or_len is_blank from) from)) × (0 < position_or_len is_blank from)

-- that byte is the first that is not blank
begun : (s : List ℕ) → position_or_len in_field s < length s → Begins s (drop (position_or_len in_field s) s)
unfolding fields_from fields
begun [] = λ h. absurd (omega arith)
begun (b ∷ s) =
    let blanks : 1 + position_or_len in_field s ≡ suc (position_or_len in_field s) = omega arith in
    let more : 1 + position_or_len is_blank s ≡ suc (position_or_len is_blank s) = omega arith in
    (elim (is_blank b) as (λ t. is_blank b ≡ t → cond (not (not t)) (1 + position_or_len in_field s) 0 < suc (length s) → Begins (b ∷ s) (drop (cond (not (not t)) (1 + position_or_len in_field s) 0) (b ∷ s))) [
      | true ↦ λ e h. rw (e, blanks) (begun s (omega arith))
      | false ↦ λ e h. rw (e, more) (run (b ∷ []) s, omega arith)
    ]) refl

-- the same, by the parts of a line as the code cuts them: a field before a blank, and the last, behind which nothing is
module _ (s from : List ℕ) (start : ℕ) (at : (start ≡ position_or_len in_field s) × (start < length s)) (cut : from ≡ take (length s - start) (drop start s)) where
  whole : from ≡ drop start s
  whole = cut ∙ take_all (length s - start) (drop start s) (simp length-drop (omega arith))

  first : Begins s from
  first = let begins = at.0 in let here : position_or_len in_field s < length s = omega arith in rw (whole, begins) (begun s here)

  pub before_blank : (end : ℕ) → (end ≡ position_or_len is_blank from) × (end < length from)
      → (fields s ≡ take end from ∷ fields (drop end from)) × (length (drop end from) < length s)
  before_blank end ends =
      let here = ends.0 in
      (rw here first.0, omega (arith, first.1, length-drop end from, length-drop start s, ap length whole))

  pub last_field : length from ≤ position_or_len is_blank from → (fields s ≡ from ∷ fields []) × (0 < length s)
  last_field h =
      let all : take (position_or_len is_blank from) from ≡ from = take_all (position_or_len is_blank from) from h in
      let none : drop (position_or_len is_blank from) from ≡ [] = drop_of_length-le from {i = position_or_len is_blank from} h in
      (rw (all, none) at first.0, omega arith)

-- no bytes have no field
pub no_bytes : (s : List ℕ) → length s ≤ 0 → fields s ≡ []
no_bytes s h = no_field s (omega arith)
