-- The closure's answer is the definition's, by the tables. Assumes nothing.
use Rattle.std.proofs.Common.{rules, ap, ◌∙◌}
use Rattle.profile.specs.Counting.{how_many}
use Rattle.profile.specs.Relations.{lone}
use Rattle.relations.specs.steps.Sizes.{lone_objects}
use Rattle.sheet.specs.Words.{sheet_of}
use Rattle.tables.proofs.ObjectTables.lone_objects.Goals as goal

pub returns : goal.returns
unfolding lone_objects
returns c = λ right. c.how_many.ensures.counted (lone (sheet_of c.args.s.now)) (λ o r l q. search rules) ∙ ap (how_many _) c.count.ensures
