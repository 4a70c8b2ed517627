-- The theorems that a stranger is promised, all in one place: the archive's second and third demand. Document 02, L2: "Acceptance is now
-- relative to that list", the list of languages `langs` that is lent beside the sheet. Each is stated here whole and proved
-- by the theorem that it cites. That the code answers what the definitions say is in the contracts of the calls (docs/GUARANTEES.md).
-- Assumes nothing.
use Prim.Native.Nat.{ℕ}
use mathlib.Core.Path.{◌≡◌}
use mathlib.Core.Bool.{false}
use mathlib.Core.List.{List, map}
use mathlib.Core.Logic.{◌⊎◌}
use Rattle.sheet.specs.Words.{Sheet, words, sheet_of}
use Rattle.sheet.specs.Layout.{level}
use Rattle.profile.specs.declared.Place.{Place}
use Rattle.profile.specs.declared.Place.TheVariants.{Header}
use Rattle.profile.specs.declared.Verdict.TheVariants.{Accepted, Broken}
use Rattle.profile.specs.Verdict.{section_of, record_of, verdict}
use Rattle.profile.specs.FirstBroken.{BrokenAt, FirstBroken}
use Rattle.profile.specs.Cases.{Case, cases, cases_hold}
use Rattle.profile.specs.RuleCases.{rule_cases, rule_cases_hold}
use Rattle.profile.specs.LanguageCases.{language_cases, language_cases_hold}
use Rattle.profile.specs.Languages.{is_rising}
use Rattle.profile.proofs.HeaderLaws.{not_rising}
use Rattle.profile.proofs.VerdictLaws.{accepted_none, none_accepted, broken_first}
use Rattle.guarantee.specs.Run.{Call}
use Rattle.guarantee.specs.Guarantee.{Listening}
use Rattle.guarantee.specs.Played.{played_on}
use Rattle.guarantee.specs.Scripts.{Script, Step, scripts, scripts_hold}
use Rattle.guarantee.proofs.Guaranteed.{listening}

-- "accepted exactly when no rule is broken": where the verdict is acceptance no rule is broken at any place
pub accepted_means_unbroken : (s : Sheet) (langs : List ℕ) → verdict s langs ≡ Accepted → (rule section k : ℕ) → BrokenAt s langs rule section k → ⊥
accepted_means_unbroken = accepted_none

-- and where no rule is broken at any place the verdict is acceptance
pub unbroken_means_accepted : (s : Sheet) (langs : List ℕ) → ((rule section k : ℕ) → BrokenAt s langs rule section k → ⊥) → verdict s langs ≡ Accepted
unbroken_means_accepted = none_accepted

-- "otherwise the first broken one": the rule of a refusal is broken at its place, and nothing earlier is
pub refused_means_first : (s : Sheet) (langs : List ℕ) (rule : ℕ) (place : Place) → verdict s langs ≡ Broken rule place → FirstBroken s langs rule (section_of place) (record_of place)
refused_means_first = broken_first

-- document 02, L2: "33, tested before rule 1 with the header as its place, the lent list isn't strictly rising": then every sheet is refused so
pub falling_list_refused : (s : Sheet) (langs : List ℕ) → is_rising langs ≡ false → verdict s langs ≡ Broken 33 Header
falling_list_refused = not_rising

-- document 01's cases (a) to (m) have the verdicts that it gives them
pub cases_have_their_verdicts : map (λ (c : Case). verdict (sheet_of c.bytes) (words c.langs)) cases ≡ map (λ (c : Case). c.answer) cases
cases_have_their_verdicts = cases_hold

-- so have the sheets that break each rule first, with their accepted neighbours
pub rule_cases_have_their_verdicts : map (λ (c : Case). verdict (sheet_of c.bytes) (words c.langs)) rule_cases ≡ map (λ (c : Case). c.answer) rule_cases
rule_cases_have_their_verdicts = rule_cases_hold

-- and the sheets whose verdict is a matter of the list of languages that is lent beside them
pub language_cases_have_their_verdicts :
    map (λ (c : Case). verdict (sheet_of c.bytes) (words c.langs)) language_cases ≡ map (λ (c : Case). c.answer) language_cases
language_cases_have_their_verdicts = language_cases_hold

-- the listening guarantee: for a sheet accepted at level 1 or 2, after every list of calls lent the same sheet and the same list
pub listening_guarantee : (s : Sheet) (langs : List ℕ) → verdict s langs ≡ Accepted → (level s ≡ 1) ⊎ (level s ≡ 2) → (calls : List Call) → Listening s langs calls
listening_guarantee = listening

-- lists of calls come to what was computed for them
pub scripts_have_their_outcomes :
    map (λ (x : Script). played_on (sheet_of x.bytes) (words x.langs) x.beginning (map (λ (y : Step). y.call) x.steps) x.buffer) scripts
    ≡ map (λ (x : Script). x.outcome) scripts
scripts_have_their_outcomes = scripts_hold
