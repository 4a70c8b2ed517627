-- A leader whose members are counted. Assumes nothing.
use Rattle.std.proofs.Common.{rules}
use mathlib.Core.Path.{sym, ◌∙◌}
use borrow.Author.Tests.{eq-eqb, ne_eqb}
use Rattle.profile.specs.Relations.{included, includes, names_set, wholly_included}
use Rattle.profile.specs.Rules.{sets_named}
use Rattle.tables.specs.steps.Members.{how_many_members}
use Rattle.sheet.specs.Words.{sheet_of}
use Rattle.rules.proofs.sets.partly_set.Goals as goal

pub returns-then-members_passing-all : goal.returns-then-members_passing-all
unfolding wholly_included included sets_named how_many_members
returns-then-members_passing-all c = λ marks sets.
    let s = sheet_of c.args.s.now in
    let whole = c.members_passing.ensures (includes s c.args.p) (λ o r l q. search rules) in
    let named = c.members_passing-m.ensures (names_set s c.args.p) (λ o r l q. search rules) in
    simp (named, eq-eqb _ _ (sym whole ∙ c.if-members_passing-all.true ∙ c.members-all.ensures.0), c.members-all.ensures.0, sym c.leader.ensures ∙ c.if-not-leader.false)

pub returns-else-members_passing-all : goal.returns-else-members_passing-all
unfolding wholly_included included how_many_members
returns-else-members_passing-all c = λ marks sets.
    let whole = c.members_passing.ensures (includes (sheet_of c.args.s.now) c.args.p) (λ o r l q. search rules) in
    simp (ne_eqb _ _ (λ q. c.if-members_passing-all.false (whole ∙ q ∙ sym c.members-all.ensures.0)), sym c.leader.ensures ∙ c.if-not-leader.false)
