-- Document 01, "Broken rules, in checking order": "The verdict is acceptance, or a rule together with a place, a section and a record.
-- The place is the subject of the sentence; within one rule the lowest section, then the lowest record; a section or the header as
-- subject gives record 0." Document 02, L2: "Acceptance is now relative to that list", the list of languages lent beside the sheet, which is
-- `langs` here. Assumes nothing.
use Rattle.std.specs.Prelude.{ℕ, ◌+◌, ◌*◌, Bool, false, cond, List, [], ◌∷◌, eqb, ltb, get_or, length}
use Rattle.sheet.specs.Words.{Sheet}
use Rattle.sheet.specs.Layout.{count}
use Rattle.profile.specs.declared.Place.{Place}
use Rattle.profile.specs.declared.Place.TheVariants.{Header, Programme, Content, Object, Pack, Track, Reference, ValueSet}
use Rattle.profile.specs.declared.Verdict.{Verdict}
use Rattle.profile.specs.declared.Verdict.TheVariants.{Accepted, Broken}
use Rattle.profile.specs.Counting.{lowest, lowest_from}
use Rattle.profile.specs.Rules.{rule1, rule2, rule3, rule4, rule5, rule6, rule7, rule8, rule9, rule10, rule11, rule12, rule13, rule14, rule15, rule16, rule17, rule18, rule19, rule20, rule21, rule22, rule23, rule24, rule33}

-- the number that document 01 gives a place's section
abbrev pub section_of : Place → ℕ
section_of Header = 0
section_of (Programme k) = 1
section_of (Content k) = 2
section_of (Object k) = 3
section_of (Pack k) = 4
section_of (Track k) = 5
section_of (Reference k) = 6
section_of (ValueSet k) = 7

-- and its record
abbrev pub record_of : Place → ℕ
record_of Header = 0
record_of (Programme k) = k
record_of (Content k) = k
record_of (Object k) = k
record_of (Pack k) = k
record_of (Track k) = k
record_of (Reference k) = k
record_of (ValueSet k) = k

-- the place of a section and a record
unfoldable pub place_at : ℕ → ℕ → Place
place_at section k =
    get_or (Header ∷ Programme k ∷ Content k ∷ Object k ∷ Pack k ∷ Track k ∷ Reference k ∷ ValueSet k ∷ []) section Header

-- sections 0 to 7
abbrev pub section_count : ℕ
section_count = 8

-- A rule: its number; for each section from 0 on 0 where it has no subject of the rule, 1 where the header or the section itself is one, 2
-- where each of its records is; and whether a record of a section breaks the rule
pub record Rule : Type 0 where
  pub number : ℕ
  pub subject_kinds : List ℕ
  pub test : Sheet → List ℕ → ℕ → ℕ → Bool

-- a rule that asks the lent list, and one of the sheet alone
abbrev list_row : ℕ → List ℕ → (Sheet → List ℕ → ℕ → ℕ → Bool) → Rule
list_row number subject_kinds test = record { number = number; subject_kinds = subject_kinds; test = test }

abbrev row : ℕ → List ℕ → (Sheet → ℕ → ℕ → Bool) → Rule
row number subject_kinds test = list_row number subject_kinds (λ s langs. test s)

-- "Broken rules, in checking order": the order is that of this list, whatever the numbers are. "The place is the subject of the sentence"
unfoldable pub rules : List Rule
rules =
    list_row 33 (1 ∷ 0 ∷ 0 ∷ 0 ∷ 0 ∷ 0 ∷ 0 ∷ 0 ∷ []) rule33  -- the header
    ∷ row 1 (1 ∷ 0 ∷ 0 ∷ 0 ∷ 0 ∷ 0 ∷ 0 ∷ 0 ∷ []) rule1  -- the header
    ∷ row 2 (1 ∷ 0 ∷ 0 ∷ 0 ∷ 0 ∷ 0 ∷ 0 ∷ 0 ∷ []) rule2  -- the header
    ∷ row 3 (0 ∷ 1 ∷ 1 ∷ 1 ∷ 1 ∷ 1 ∷ 1 ∷ 1 ∷ []) rule3  -- a section
    ∷ row 4 (0 ∷ 2 ∷ 2 ∷ 2 ∷ 0 ∷ 0 ∷ 0 ∷ 0 ∷ []) rule4  -- a record with lists or a span
    ∷ row 5 (0 ∷ 2 ∷ 2 ∷ 2 ∷ 0 ∷ 2 ∷ 0 ∷ 0 ∷ []) rule5  -- a record that names an index, or has a list that does
    ∷ list_row 6 (0 ∷ 2 ∷ 2 ∷ 2 ∷ 2 ∷ 0 ∷ 0 ∷ 2 ∷ []) rule6  -- a record with words that have values
    ∷ row 7 (0 ∷ 1 ∷ 1 ∷ 1 ∷ 1 ∷ 1 ∷ 0 ∷ 0 ∷ []) rule7  -- a section
    ∷ row 8 (0 ∷ 2 ∷ 2 ∷ 2 ∷ 0 ∷ 0 ∷ 0 ∷ 0 ∷ []) rule8  -- a record with lists or a span
    ∷ row 9 (0 ∷ 2 ∷ 2 ∷ 0 ∷ 0 ∷ 0 ∷ 0 ∷ 0 ∷ []) rule9  -- a programme or content
    ∷ row 10 (0 ∷ 0 ∷ 0 ∷ 0 ∷ 2 ∷ 0 ∷ 0 ∷ 0 ∷ []) rule10  -- a pack
    ∷ row 11 (0 ∷ 0 ∷ 0 ∷ 2 ∷ 0 ∷ 0 ∷ 0 ∷ 2 ∷ []) rule11  -- an object or a value set
    ∷ row 12 (0 ∷ 2 ∷ 2 ∷ 0 ∷ 0 ∷ 0 ∷ 0 ∷ 0 ∷ []) rule12  -- a programme or content
    ∷ row 13 (0 ∷ 0 ∷ 0 ∷ 2 ∷ 0 ∷ 0 ∷ 0 ∷ 0 ∷ []) rule13  -- an object
    ∷ row 14 (0 ∷ 0 ∷ 0 ∷ 2 ∷ 0 ∷ 0 ∷ 0 ∷ 0 ∷ []) rule14  -- an object
    ∷ row 15 (0 ∷ 0 ∷ 0 ∷ 2 ∷ 0 ∷ 0 ∷ 0 ∷ 0 ∷ []) rule15  -- an object
    ∷ row 16 (0 ∷ 0 ∷ 0 ∷ 2 ∷ 0 ∷ 0 ∷ 0 ∷ 0 ∷ []) rule16  -- an object
    ∷ row 17 (0 ∷ 0 ∷ 0 ∷ 2 ∷ 0 ∷ 0 ∷ 0 ∷ 2 ∷ []) rule17  -- an object, "a breach by a set has the set as its place"
    ∷ row 18 (0 ∷ 0 ∷ 0 ∷ 2 ∷ 0 ∷ 0 ∷ 0 ∷ 2 ∷ []) rule18  -- the same
    ∷ row 19 (0 ∷ 0 ∷ 0 ∷ 2 ∷ 0 ∷ 0 ∷ 0 ∷ 0 ∷ []) rule19  -- an object
    ∷ row 20 (0 ∷ 0 ∷ 0 ∷ 2 ∷ 0 ∷ 0 ∷ 0 ∷ 0 ∷ []) rule20  -- a leader
    ∷ row 21 (0 ∷ 2 ∷ 0 ∷ 0 ∷ 0 ∷ 0 ∷ 0 ∷ 0 ∷ []) rule21  -- a programme
    ∷ row 22 (0 ∷ 2 ∷ 0 ∷ 0 ∷ 0 ∷ 0 ∷ 0 ∷ 0 ∷ []) rule22  -- a programme
    ∷ row 23 (1 ∷ 0 ∷ 0 ∷ 0 ∷ 0 ∷ 0 ∷ 0 ∷ 0 ∷ []) rule23  -- the header
    ∷ row 24 (1 ∷ 0 ∷ 0 ∷ 0 ∷ 0 ∷ 0 ∷ 0 ∷ 0 ∷ []) rule24  -- the header
    ∷ []

-- how many rules there are
unfoldable pub rule_count : ℕ
rule_count = length rules

-- the rule at a position of the list; past its end one that is never broken
unfoldable pub rule_at : ℕ → Rule
rule_at i = get_or rules i (row 0 [] (λ s section k. false))

-- and its number
unfoldable pub number_at : ℕ → ℕ
number_at i = (rule_at i).number

-- the position of the rule of that number, or the number of rules
unfoldable pub position : ℕ → ℕ
position n = lowest (λ i. eqb (number_at i) n) rule_count

-- that record of that section breaks the rule of that number (what opens this opens the look-up)
unfoldable pub breaks : Sheet → List ℕ → ℕ → ℕ → ℕ → Bool
unfolding rules rule_count rule_at number_at position lowest lowest_from
breaks s langs n = (rule_at (position n)).test s langs

-- which subjects of it a section has
unfoldable pub subject_kind : ℕ → ℕ → ℕ
unfolding rules rule_count rule_at number_at position lowest lowest_from
subject_kind n section = get_or (rule_at (position n)).subject_kinds section 0

-- how many records of that section that rule can have as its place: none where there is no such rule or section
unfoldable pub subjects : Sheet → ℕ → ℕ → ℕ
subjects s rule section = get_or (0 ∷ 1 ∷ count s section ∷ []) (subject_kind rule section) 0

-- the lowest record of a section that breaks a rule, or the number of subjects
unfoldable pub broken_record : Sheet → List ℕ → ℕ → ℕ → ℕ
broken_record s langs rule section = lowest (breaks s langs rule section) (subjects s rule section)

-- the section has a record that breaks the rule
unfoldable pub section_broken : Sheet → List ℕ → ℕ → ℕ → Bool
section_broken s langs rule section = ltb (broken_record s langs rule section) (subjects s rule section)

-- the lowest section with such a record, or 8
unfoldable pub broken_section : Sheet → List ℕ → ℕ → ℕ
broken_section s langs rule = lowest (section_broken s langs rule) section_count

-- the rule is broken somewhere
unfoldable pub rule_broken : Sheet → List ℕ → ℕ → Bool
rule_broken s langs rule = ltb (broken_section s langs rule) section_count

-- the position of the first broken rule, or the number of rules
unfoldable pub broken_position : Sheet → List ℕ → ℕ
broken_position s langs = lowest (λ i. rule_broken s langs (number_at i)) rule_count

-- the rule with its place
unfoldable pub broken_at : Sheet → List ℕ → ℕ → Verdict
broken_at s langs rule = Broken rule (place_at (broken_section s langs rule) (broken_record s langs rule (broken_section s langs rule)))

-- the first broken rule with its place, or acceptance
unfoldable pub verdict : Sheet → List ℕ → Verdict
verdict s langs = cond (ltb (broken_position s langs) rule_count) (broken_at s langs (number_at (broken_position s langs))) Accepted

-- "Check gives 0, or 1,000,000 times the rule plus 100,000 times the section plus the record."
abbrev pub verdict_code : Verdict → ℕ
verdict_code Accepted = 0
verdict_code (Broken rule place) = 1000000 * rule + 100000 * section_of place + record_of place
