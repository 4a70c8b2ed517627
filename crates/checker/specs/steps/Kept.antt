-- What is known of the records that a pass went through. Assumes nothing.
use Rattle.std.specs.Prelude.{ℕ, ◌<◌, ◌≡◌, false, true, List}
use Rattle.sheet.specs.Words.{Sheet}
use Rattle.profile.specs.Verdict.{breaks}
use Rattle.grouping.specs.steps.Groups.{KeptTo}

-- the programmes before k keep rules 21 and 22
abbrev pub KeptBelow : Sheet → ℕ → Type 0
KeptBelow s k = KeptTo s true k

-- the records of a section before k keep a rule
abbrev pub Unbroken : Sheet → List ℕ → ℕ → ℕ → ℕ → Type 0
Unbroken s langs rule section k = (j : ℕ) → j < k → breaks s langs rule section j ≡ false
