-- A value set that has no more than a gain. Assumes nothing.
use Prim.Native.Nat.{ℕ}
use mathlib.Core.Path.{◌≡◌}
use mathlib.Core.Bool.{true, not, ◌&&◌}
use lib.Dec.{eqb}
use borrow.Author.Tests.{eqb-true, not-true}
use Rattle.values.specs.Values.{or_else}
use Rattle.profile.specs.Rules.{bad_words}
use Rattle.profile.proofs.BoolLaws.{or_false, and_both}
use Rattle.relations.specs.declared.sets.Values.{Values}
use Rattle.screen.specs.declared.ObjectValues.{ObjectValues}
use Rattle.screen.specs.steps.Values.{has_range, none_present, own_leaves, value_leaves, set_words_broken, gain_broken}
use Rattle.std.proofs.Math.Bool.{and-false}
use Rattle.screen.proofs.ObjectLaws.{all_absent}

pub only_gain : (own : ℕ) (gains offsets : Values) (v : ObjectValues) → (eqb own 0 && not (has_range gains) && none_present offsets) ≡ true
    → gain_broken gains v ≡ set_words_broken own gains offsets v
unfolding gain_broken set_words_broken own_leaves value_leaves bad_words or_else
only_gain own gains offsets v e =
    let p = and_both (eqb own 0 && not (has_range gains)) (none_present offsets) e in
    let q = and_both (eqb own 0) (not (has_range gains)) p.0 in
    let none = all_absent offsets p.1 in
    simp (eqb-true own 0 q.0, not-true (has_range gains) q.1, none.0, none.1, none.2, and-false, or_false)
