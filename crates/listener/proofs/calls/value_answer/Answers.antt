-- 28, 30 and 31, behind 25 and 26. Assumes nothing.
use mathlib.Core.Path.{sym, ap, ◌∙◌}
use mathlib.Core.Bool.{not}
use borrow.Author.Rules.{rules}
use Rattle.granted.specs.Granted.{grants}
use Rattle.granted.specs.steps.NamedSet.{granted_range, is_range}
use Rattle.listener.specs.Calls.{not_included, no_range, outside_range, value_answer}
use Rattle.listener.proofs.AnswerLaws.{behind, handed_on, held, passed, none_left}
use Rattle.listener.proofs.calls.value_answer.Goals as goal

pub returns-in_err-sound_answer : goal.returns-in_err-sound_answer
unfolding value_answer
returns-in_err-sound_answer g c = handed_on _ _ _ _ c.sound_answer.ensures c.in_err-sound_answer.was (search rules)

pub returns-then-not-includes : goal.returns-then-not-includes
unfolding value_answer not_included
returns-then-not-includes g c = sym (behind _ _ _ _ c.sound_answer.ensures c.in_ok-sound_answer.was ∙ held _ _ (ap not (sym c.includes.ensures ∙ c.if-not-includes.true)))

pub returns-then-not-is_there : goal.returns-then-not-is_there
unfolding value_answer not_included no_range grants granted_range is_range
returns-then-not-is_there g c =
    let there = sym (rw (c.granted_range-range.ensures, c.SORT.ensures) at c.is_there.ensures) in
    sym (behind _ _ _ _ c.sound_answer.ensures c.in_ok-sound_answer.was ∙ passed _ _ (ap not (sym c.includes.ensures ∙ c.if-not-includes.false)) ∙ held _ _ (ap not (there ∙ c.if-not-is_there.true)))

pub returns-else-within : goal.returns-else-within
unfolding value_answer not_included no_range outside_range grants granted_range is_range
returns-else-within g c =
    let there = sym (rw (c.granted_range-range.ensures, c.SORT.ensures) at c.is_there.ensures) in
    let fits = sym (rw (c.granted_range-range.ensures, c.SORT.ensures) at c.within.ensures) in
    sym (behind _ _ _ _ c.sound_answer.ensures c.in_ok-sound_answer.was ∙ passed _ _ (ap not (sym c.includes.ensures ∙ c.if-not-includes.false)) ∙ passed _ _ (ap not (there ∙ c.if-not-is_there.false)) ∙ held _ _ (ap not (fits ∙ c.if-within.false)))

pub returns-then-within : goal.returns-then-within
unfolding value_answer not_included no_range outside_range grants granted_range is_range
returns-then-within g c =
    let there = sym (rw (c.granted_range-range.ensures, c.SORT.ensures) at c.is_there.ensures) in
    let fits = sym (rw (c.granted_range-range.ensures, c.SORT.ensures) at c.within.ensures) in
    sym (behind _ _ _ _ c.sound_answer.ensures c.in_ok-sound_answer.was ∙ passed _ _ (ap not (sym c.includes.ensures ∙ c.if-not-includes.false)) ∙ passed _ _ (ap not (there ∙ c.if-not-is_there.false)) ∙ passed _ _ (ap not (fits ∙ c.if-within.true)) ∙ none_left)
