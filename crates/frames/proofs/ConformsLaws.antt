-- The tests of conformance and the sentences of Table 23. Assumes nothing.
use Prim.Native.Nat.{ℕ, suc, ◌*◌, ◌/◌, ◌%◌, ◌≤◌}
use mathlib.Core.Path.{◌≡◌, refl, sym, ap, ◌∙◌}
use mathlib.Core.Bool.{or-true, false≢true, Bool, true, false, not}
use mathlib.Core.List.{List, [], ◌∷◌, ◌++◌}
use native.Mathlib.Omega.{arith}
use borrow.Author.Tests.{eqb-true, eq-eqb}
use borrow.Table.Steps.{cases}
use lib.Dec.{eqb}
use lib.ListN.{length, drop}
use Rattle.std.specs.List.{list_any}
use Rattle.std.proofs.lemmas.Bool.{or_parts, not-false}
use Rattle.std.proofs.lemmas.List.Folds.{list_any-append}
use Rattle.frames.specs.declared.Block.{Block}
use Rattle.frames.specs.Blocks.{blocks, is_unfinished, total}
use Rattle.frames.specs.Conformance.{initialising_not_first, some_bad, bad_block, no_block, bad_total}
use Rattle.frames.proofs.BadLaws.{good_length, good_start, good_block, none_bad, bad_none}
use Rattle.frames.specs.Promises.{Conforms}

-- "three to a block"
blocks_number : (ns : List ℕ) → length (blocks ns) ≡ length ns / 3
unfolding blocks
blocks_number [] = refl
blocks_number (a ∷ []) = refl
blocks_number (a ∷ b ∷ []) = refl
blocks_number (a ∷ b ∷ c ∷ ns) = let e : suc (suc (suc (length ns))) / 3 ≡ suc (length ns / 3) = omega arith in rw e (ap suc (blocks_number ns))

pub finished_whole : (ns : List ℕ) → is_unfinished ns ≡ false → length ns ≡ 3 * length (blocks ns)
unfolding is_unfinished
finished_whole ns h = let e = blocks_number ns in let z : length ns % 3 ≡ 0 = eqb-true _ 0 (not-false _ h) in omega (arith, e, z)

pub whole_finished : (ns : List ℕ) → length ns ≡ 3 * length (blocks ns) → is_unfinished ns ≡ false
unfolding is_unfinished
whole_finished ns h = let z : length ns % 3 ≡ 0 = omega (arith, h) in rw (eq-eqb (length ns % 3) 0 z) refl

-- a test fails at a place where it fails nowhere, and where it fails at each place it fails at all
any_at : {X : Type 0} (p : X → Bool) (before after : List X) (b : X) → p b ≡ true → list_any p (before ++ b ∷ after) ≡ true
any_at p before after b h = list_any-append p before (b ∷ after) ∙ rw h (or-true (list_any p before))

none_any : {X : Type 0} (p : X → Bool) (bs : List X) → ((before after : List X) (b : X) → bs ≡ before ++ b ∷ after → p b ≡ true → ⊥) → list_any p bs ≡ false
none_any p [] h = refl
none_any p (b ∷ bs) h =
    let first : p b ≡ false = cases (p b) (λ e. absurd (h [] bs b refl e)) (λ e. e) in
    rw first (none_any p bs (λ before after c e i. h (b ∷ before) after c (ap (λ l. b ∷ l) e) i))

no_first : (a : Block) (before : List Block) → a ∷ before ≡ [] → ⊥
no_first a before e = cc

pub first_alone : (bs before after : List Block) (b : Block) → initialising_not_first bs ≡ false → bs ≡ before ++ b ∷ after → b.initialising ≡ true → before ≡ []
unfolding initialising_not_first
first_alone bs [] after b h e i = refl
first_alone bs (a ∷ before) after b h e i =
    absurd (false≢true (sym h ∙ ap (λ l. list_any (λ (x : Block). x.initialising) (drop 1 l)) e ∙ any_at (λ (x : Block). x.initialising) before after b i))

pub alone_first : (bs : List Block) → ((before after : List Block) (b : Block) → bs ≡ before ++ b ∷ after → b.initialising ≡ true → before ≡ []) → initialising_not_first bs ≡ false
unfolding initialising_not_first
alone_first [] h = refl
alone_first (a ∷ bs) h = none_any (λ (x : Block). x.initialising) bs (λ before after c e i. no_first a before (h (a ∷ before) after c (ap (λ l. a ∷ l) e) i))

pub some_block : (bs : List Block) → no_block bs ≡ false → 1 ≤ length bs
unfolding no_block
some_block [] h = cc
some_block (b ∷ bs) h = omega arith

pub block_there : (bs : List Block) → 1 ≤ length bs → no_block bs ≡ false
unfolding no_block
block_there [] h = absurd (omega arith)
block_there (b ∷ bs) h = refl

module _ (frame : ℕ) (ns : List ℕ) where
  abbrev NoneHolds : Type 0
  NoneHolds = (initialising_not_first (blocks ns) ≡ false) × (bad_block (blocks ns) (is_unfinished ns) ≡ false) × (bad_total frame (blocks ns) ≡ false)

  pub conforms_lem : NoneHolds → Conforms frame ns
  unfolding bad_block bad_total
  conforms_lem h =
      let bs = blocks ns in
      let bad = or_parts (some_bad [] bs) (is_unfinished ns) h.1 in
      let unlike = or_parts (no_block bs) (not (eqb (total bs) frame)) h.2 in
      record {
        finished = finished_whole ns bad.1;
        initialising_first = λ before after b e i. first_alone bs before after b h.0 e i;
        lengths_legal = λ before after b e i. good_length before b (none_bad [] before after b (rw (← e) bad.0)) i;
        starts_add_up = λ before after b e i. good_start before b (none_bad [] before after b (rw (← e) bad.0)) i;
        some_block = some_block bs unlike.0;
        lengths_add_up = eqb-true (total bs) frame (not-false _ unlike.1);
      }

  pub conforming : Conforms frame ns → NoneHolds
  unfolding bad_block bad_total
  conforming c =
      let bs = blocks ns in
      let bad : some_bad [] bs ≡ false = bad_none [] bs (λ before after b e. good_block before b (λ i. (c.lengths_legal before after b e i, c.starts_add_up before after b e i))) in
      (alone_first bs c.initialising_first, rw (bad, whole_finished ns c.finished) refl, rw (block_there bs c.some_block, eq-eqb (total bs) frame c.lengths_add_up) refl)
