-- What a verdict means. The archive's second demand: "accepted exactly when no rule is broken, otherwise the first broken one", in the
-- order of document 01's "Broken rules, in checking order": by the rule's position in the list `rules`, "within one rule the lowest section,
-- then the lowest record". Assumes nothing.
use Rattle.std.specs.Prelude.{ℕ, ◌<◌, ◌≡◌, true, ◌⊎◌, List}
use Rattle.sheet.specs.Words.{Sheet}
use Rattle.profile.specs.Verdict.{position, breaks, subjects}

-- record k of that section is a subject of the rule of that number, and breaks it
pub record BrokenAt (s : Sheet) (langs : List ℕ) (rule section k : ℕ) : Type 0 where
  pub subject : k < subjects s rule section
  pub broken : breaks s langs rule section k ≡ true

-- the order of checking: an earlier rule, or the same with a lower section, or the same with a lower record
abbrev pub Earlier : ℕ → ℕ → ℕ → ℕ → ℕ → ℕ → Type 0
Earlier rule section k rule' section' k' =
    (position rule < position rule') ⊎ ((rule ≡ rule') × ((section < section') ⊎ ((section ≡ section') × (k < k'))))

-- broken there, and nothing earlier is
pub record FirstBroken (s : Sheet) (langs : List ℕ) (rule section k : ℕ) : Type 0 where
  pub here : BrokenAt s langs rule section k
  pub nothing_earlier : (rule' section' k' : ℕ) → Earlier rule' section' k' rule section k → BrokenAt s langs rule' section' k' → ⊥
