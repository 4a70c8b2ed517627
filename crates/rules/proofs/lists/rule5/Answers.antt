-- The indices of each section. Assumes nothing.
use Rattle.profile.specs.Rules.{rule5}
use Rattle.sheet.specs.Fields.{contents, objects, tracks, value_sets}
use Rattle.runs.specs.steps.Runs.{LacksRight}
use Rattle.rules.specs.steps.Loops.{first_target, second_target}
use Rattle.sheet.specs.Words.{sheet_of}
use Rattle.profile.proofs.BoolLaws.{or_false}
use Rattle.rules.proofs.lists.rule5.Goals as goal

pub returns-in-1 : goal.returns-in-1
unfolding rule5 first_target second_target
returns-in-1 c = λ first second.
    let a = c.args in let s = sheet_of a.s.now in
    let f : LacksRight s contents a.first.now = rw c.in-1.is at first in
    let g : LacksRight s value_sets a.second.now = rw c.in-1.is at second in
    simp (c.list_lacks_by-in-1.ensures g, c.list_lacks_by.ensures f, c.in-1.is, or_false)

pub returns-in-3 : goal.returns-in-3
unfolding rule5 first_target second_target
returns-in-3 c =
    λ first second.
    let a = c.args in let s = sheet_of a.s.now in
    let f : LacksRight s tracks a.first.now = rw c.in-3.is at first in
    let g : LacksRight s objects a.second.now = rw c.in-3.is at second in
    simp (c.list_lacks_by-in-3-3.ensures g, c.list_lacks_by-in-3-2.ensures g, c.list_lacks_by-in-3.ensures f, c.lacks-in-3.ensures, c.pack_of.ensures, c.has_pack.ensures, c.in-3.is, or_false)
