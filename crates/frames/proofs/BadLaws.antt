-- When a block is bad, and lists with no bad block. Assumes nothing.
use Prim.Native.Nat.{ℕ, ◌≤◌}
use mathlib.Core.Path.{◌≡◌, refl, ap}
use mathlib.Core.Bool.{Bool, true, false, not, ◌&&◌}
use mathlib.Core.List.{List, [], ◌∷◌, ◌++◌, append_assoc, append-nil}
use mathlib.Core.Logic.{◌⊎◌, inl, inr, ⊎_elim}
use borrow.Author.Tests.{leb-true, le-leb, eqb-true, eq-eqb}
use borrow.Table.Steps.{cases}
use Rattle.std.proofs.Math.Bool.{or-true}
use lib.Dec.{eqb}
use Rattle.std.proofs.lemmas.Bool.{or_parts}
use Rattle.frames.specs.declared.Block.{Block}
use Rattle.frames.specs.Blocks.{total}
use Rattle.frames.specs.Conformance.{legal_length, legal_start, is_bad, some_bad}

-- over plain values
not_bad : (i l s : Bool) → (not i && not (l && s)) ≡ false → i ≡ false → (l ≡ true) × (s ≡ true)
not_bad true l s h e = cc
not_bad false true true h e = (refl, refl)
not_bad false true false h e = cc
not_bad false false s h e = cc

bad_not : (i l s : Bool) → (i ≡ false → (l ≡ true) × (s ≡ true)) → (not i && not (l && s)) ≡ false
bad_not true l s h = refl
bad_not false l s h = let p = h refl in rw (p.0, p.1) refl

pub length_parts : (n : ℕ) → legal_length n ≡ true → (n ≡ 0) ⊎ (5000 ≤ n)
unfolding legal_length
length_parts n h = cases (eqb n 0) (λ e. inl (eqb-true n 0 e)) (λ e. inr (leb-true 5000 n (rw e at h)))

length_legal : (n : ℕ) → (n ≡ 0) ⊎ (5000 ≤ n) → legal_length n ≡ true
unfolding legal_length
length_legal n = ⊎_elim (λ e. rw (eq-eqb n 0 e) refl) (λ l. rw (le-leb 5000 n l) (or-true (eqb n 0)))

-- what a block that is not bad has
module _ (before : List Block) (b : Block) where
  pub good_length : is_bad before b ≡ false → b.initialising ≡ false → (b.length ≡ 0) ⊎ (5000 ≤ b.length)
  unfolding is_bad
  good_length h i = length_parts b.length (not_bad b.initialising _ _ h i).0

  pub good_start : is_bad before b ≡ false → b.initialising ≡ false → b.start ≡ total before
  unfolding is_bad legal_start
  good_start h i = eqb-true b.start (total before) (not_bad b.initialising _ _ h i).1

  pub good_block : (b.initialising ≡ false → ((b.length ≡ 0) ⊎ (5000 ≤ b.length)) × (b.start ≡ total before)) → is_bad before b ≡ false
  unfolding is_bad legal_start
  good_block h = bad_not b.initialising _ _ (λ i. (length_legal b.length (h i).0, eq-eqb b.start (total before) (h i).1))

-- of a list in which none is bad
pub none_bad : (x before after : List Block) (b : Block) → some_bad x (before ++ b ∷ after) ≡ false → is_bad (x ++ before) b ≡ false
unfolding some_bad
none_bad x [] after b h = rw (append-nil x) (or_parts (is_bad x b) _ h).0
none_bad x (a ∷ before) after b h =
    rw (← append_assoc x (a ∷ []) before) (none_bad (x ++ a ∷ []) before after b (or_parts (is_bad x a) _ h).1)

pub bad_none : (x bs : List Block) → ((before after : List Block) (b : Block) → bs ≡ before ++ b ∷ after → is_bad (x ++ before) b ≡ false) → some_bad x bs ≡ false
unfolding some_bad
bad_none x [] h = refl
bad_none x (b ∷ bs) h =
    let first : is_bad x b ≡ false = rw (append-nil x) at (h [] bs b refl) in
    let rest : some_bad (x ++ b ∷ []) bs ≡ false =
    bad_none (x ++ b ∷ []) bs (λ before after c e. rw (append_assoc x (b ∷ []) before) (h (b ∷ before) after c (ap (λ l. b ∷ l) e))) in
    rw first rest
