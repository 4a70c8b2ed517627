-- The subjects of a rule as the code has them, and the place of one rule. Assumes nothing.
use Rattle.std.specs.Prelude.{ℕ, ◌<◌, ◌≡◌, cond, List, get_or, Option, Some, None}
use Rattle.sheet.specs.Words.{Sheet}
use Rattle.sheet.specs.Layout.{count}
use Rattle.profile.specs.declared.Place.{Place}
use Rattle.profile.specs.Verdict.{section_count, subject_kind, rule_broken, broken_section, broken_record, place_at}
use Rattle.checker.specs.declared.SubjectKind.{SubjectKind}
use Rattle.checker.specs.declared.SubjectKind.TheVariants.{Nothing, Itself, Records}

-- the number of a kind of subjects in the list of rules
unfoldable pub kind_number : SubjectKind → ℕ
kind_number Nothing = 0
kind_number Itself = 1
kind_number Records = 2

-- so many kinds are those of a rule's subjects, section by section
abbrev pub KindsOf : ℕ → List SubjectKind → Type 0
KindsOf rule kinds = (i : ℕ) → i < section_count → kind_number (get_or kinds i Nothing) ≡ subject_kind rule i

-- how many subjects a section has, by their kind
unfoldable pub subjects_of : Sheet → ℕ → SubjectKind → ℕ
subjects_of s section Nothing = 0
subjects_of s section Itself = 1
subjects_of s section Records = count s section

-- the place of a rule, where it is broken
unfoldable pub rule_place : Sheet → List ℕ → ℕ → Option Place
rule_place s langs rule =
    cond (rule_broken s langs rule) (Some (place_at (broken_section s langs rule) (broken_record s langs rule (broken_section s langs rule)))) None
