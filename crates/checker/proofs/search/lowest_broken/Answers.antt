-- Of no records none breaks the rule. Assumes nothing.
use native.Mathlib.Omega.{arith}
use Rattle.sheet.specs.Words.{sheet_of}
use Rattle.profile.specs.Verdict.{breaks}
use Rattle.profile.proofs.CountingLaws.{lowest_le}
use Rattle.checker.proofs.search.lowest_broken.Goals as goal

pub returns-then-n-eq0 : goal.returns-then-n-eq0
returns-then-n-eq0 c =
    let a = c.args in
    let at_most = lowest_le (breaks (sheet_of a.s.now) a.langs.now a.asked.rule a.asked.section) a.n in
    omega (arith, c.if-n-eq0.true, at_most)
