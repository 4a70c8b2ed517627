-- No rule passed is broken. Assumes nothing.
use Rattle.std.proofs.Common.{ℕ, ◌<◌, ◌≡◌, false}
use Rattle.sheet.specs.Words.{sheet_of}
use Rattle.profile.specs.Verdict.{number_at, rule_broken}
use Rattle.checker.specs.steps.Kept.{KeptBelow}
use Rattle.checker.proofs.search.first_broken.Given as goal

abbrev pub invariant-loop-rule : goal.invariant-loop-rule
invariant-loop-rule l = ((j : ℕ) → j < l.rule-index → rule_broken (sheet_of l.sheet) l.langs (number_at j) ≡ false) × KeptBelow (sheet_of l.sheet) l.kept
