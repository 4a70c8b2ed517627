-- No section passed has a record that breaks the rule. Assumes nothing.
use Rattle.std.proofs.Common.{ℕ, ◌<◌, ◌≡◌, false}
use Rattle.sheet.specs.Words.{sheet_of}
use Rattle.profile.specs.Verdict.{section_broken}
use Rattle.checker.proofs.search.rule_place.Given as goal

abbrev pub invariant-loop-section : goal.invariant-loop-section
invariant-loop-section l = (j : ℕ) → j < l.section → section_broken (sheet_of l.s) l.langs l.rule j ≡ false
