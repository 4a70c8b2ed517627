-- The leader by the table, its members by the marks. Assumes nothing.
use mathlib.Core.Path.{sym, ◌∙◌}
use Rattle.profile.specs.Relations.{includes, included, wholly_included}
use Rattle.sheet.specs.Words.{sheet_of}
use borrow.Author.Rules.{rules}
use Rattle.tables.specs.steps.Members.{how_many_members}
use Rattle.granted.specs.Granted.{in_whole_group}
use Rattle.granted.proofs.ProgrammeTables.in_whole_group.Goals as goal

pub returns-then-leader : goal.returns-then-leader
unfolding in_whole_group wholly_included included how_many_members
returns-then-leader c = λ right. simp (sym c.leader.ensures ∙ c.if-leader.true, c.members_passing.ensures (includes (sheet_of c.args.s.now) c.args.self.now.programme) (λ q r l h. search rules), c.members.ensures.0, sym (c.leader_by-l.ensures right.0))

pub returns-else-leader : goal.returns-else-leader
unfolding in_whole_group wholly_included
returns-else-leader c = λ right. simp (sym c.leader.ensures ∙ c.if-leader.false, sym (c.leader_by-l.ensures right.0))
