-- What the screening tests of programmes and contents. Assumes nothing.
use Rattle.std.specs.Prelude.{ℕ, ◌+◌, Bool, not, ◌||◌, List, ltb}
use Rattle.sheet.specs.Words.{Sheet}
use Rattle.sheet.specs.Layout.{count, offset}
use Rattle.sheet.specs.Fields.{programmes, contents, references, value_sets}
use Rattle.values.specs.Language.{loudness}
use Rattle.profile.specs.Counting.{any, two_of}
use Rattle.profile.specs.Languages.{good_language}
use Rattle.profile.specs.Limits.{exceeds, labels_limit, programme_contents_limit, programme_sets_limit}
use Rattle.profile.specs.Rules.{outside, rule4, rule5, rule6, rule8, rule9}
use Rattle.lists.specs.steps.Entries.{lacking_at, no_language_at, same_at}

-- a language, a label list and a loudness that break rule 4, 6, 8 or 9
unfoldable pub speech_broken : Sheet → List ℕ → ℕ → ℕ → ℕ → ℕ → Bool
speech_broken s langs lang first n loud =
    ltb (count s references) (first + n)
    || (not (good_language langs lang) || any (no_language_at s langs (offset s references) first) n || not (loudness loud))
    || exceeds s labels_limit n
    || two_of (same_at s (offset s references) first) n

-- a content breaks a rule that needs no table
unfoldable pub content_broken : Sheet → List ℕ → ℕ → Bool
content_broken s langs k = rule4 s contents k || rule5 s contents k || rule6 s langs contents k || rule8 s contents k || rule9 s contents k

-- a content list and a set list that break rule 4, 5 or 8
unfoldable pub programme_lists_broken : Sheet → ℕ → ℕ → ℕ → ℕ → Bool
programme_lists_broken s first n from sets =
    ltb (count s references) (first + n)
    || ltb (count s references) (from + sets)
    || outside s programme_contents_limit n
    || exceeds s programme_sets_limit sets
    || any (lacking_at s (offset s references) first (count s contents)) n
    || any (lacking_at s (offset s references) from (count s value_sets)) sets

-- a programme breaks a rule that needs no table
unfoldable pub programme_broken : Sheet → List ℕ → ℕ → Bool
programme_broken s langs k = rule4 s programmes k || rule5 s programmes k || rule6 s langs programmes k || rule8 s programmes k || rule9 s programmes k
