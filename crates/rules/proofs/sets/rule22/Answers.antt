-- Its four parts. Assumes nothing.
use mathlib.Core.Bool.{not}
use mathlib.Core.Path.{sym, ◌∙◌}
use Rattle.std.proofs.Common.{rules}
use Rattle.profile.specs.Rules.{rule22, owner_at}
use Rattle.profile.specs.Relations.{includes, owner, named_set}
use Rattle.tables.proofs.MarkLaws.{nought}
use Rattle.rules.specs.steps.Loops.{keys_alike, partly_set}
use Rattle.sheet.specs.Words.{sheet_of}
use Rattle.rules.proofs.sets.rule22.Goals as goal

pub returns-then-any_entry : goal.returns-then-any_entry
unfolding rule22 keys_alike owner_at named_set
returns-then-any_entry c = λ right marks.
    let s = sheet_of c.args.s.now in
    let left_out = c.any_entry.ensures (λ v. not (includes s c.args.p (owner s v))) (λ v r l q. search rules) in
    simp (sym left_out ∙ c.if-any_entry.true)

pub returns-then-one_owner : goal.returns-then-one_owner
unfolding rule22 keys_alike owner_at named_set
returns-then-one_owner c = λ right marks.
    let s = sheet_of c.args.s.now in
    let left_out = c.any_entry.ensures (λ v. not (includes s c.args.p (owner s v))) (λ v r l q. search rules) in
    simp (sym left_out ∙ c.if-any_entry.false, sym (c.one_owner.ensures right.0) ∙ c.if-one_owner.true)

pub returns : goal.returns
unfolding rule22 keys_alike owner_at named_set
returns c = λ right marks.
    let s = sheet_of c.args.s.now in
    let left_out = c.any_entry.ensures (λ v. not (includes s c.args.p (owner s v))) (λ v r l q. search rules) in
    let sets = c.mark_named_sets.ensures.1 (λ x l. nought 4680 x) in
    let partly = rw c.count.ensures at (c.any.ensures (partly_set s c.args.p) (λ l r b q. search rules)) in
    simp (c.differ_in_group.ensures right, partly, sym left_out ∙ c.if-any_entry.false, sym (c.one_owner.ensures right.0) ∙ c.if-one_owner.false)
