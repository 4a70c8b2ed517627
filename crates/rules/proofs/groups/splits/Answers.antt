-- A leader whose members are counted. Assumes nothing.
use Rattle.std.proofs.Common.{rules}
use mathlib.Core.Path.{sym, ◌∙◌}
use Rattle.profile.specs.Relations.{included, includes, wholly_included}
use Rattle.tables.specs.steps.Members.{how_many_members}
use Rattle.sheet.specs.Words.{sheet_of}
use Rattle.rules.proofs.groups.splits.Goals as goal

pub returns : goal.returns
unfolding wholly_included included how_many_members
returns c = λ marks.
    simp (c.members_passing-n.ensures (includes (sheet_of c.args.s.now) c.args.p) (λ o r l q. search rules), c.members.ensures.0, sym c.leader.ensures ∙ c.if-not-leader.false)
