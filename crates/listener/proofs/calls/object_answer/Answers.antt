-- 28 and 29, behind 25 and 26. Assumes nothing.
use mathlib.Core.Path.{sym, ap, ◌∙◌}
use mathlib.Core.Bool.{not}
use borrow.Author.Rules.{rules}
use Rattle.listener.specs.Calls.{not_included, not_in_group, object_answer}
use Rattle.listener.proofs.AnswerLaws.{behind, handed_on, held, passed, none_left}
use Rattle.listener.proofs.calls.object_answer.Goals as goal

pub returns-in_err-sound_answer : goal.returns-in_err-sound_answer
unfolding object_answer
returns-in_err-sound_answer c = handed_on _ _ _ _ c.sound_answer.ensures c.in_err-sound_answer.was (search rules)

pub returns-then-not-includes : goal.returns-then-not-includes
unfolding object_answer not_included
returns-then-not-includes c = sym (behind _ _ _ _ c.sound_answer.ensures c.in_ok-sound_answer.was ∙ held _ _ (ap not (sym c.includes.ensures ∙ c.if-not-includes.true)))

pub returns-then-not-in_whole_group : goal.returns-then-not-in_whole_group
unfolding object_answer not_included not_in_group
returns-then-not-in_whole_group c =
    sym (behind _ _ _ _ c.sound_answer.ensures c.in_ok-sound_answer.was ∙ passed _ _ (ap not (sym c.includes.ensures ∙ c.if-not-includes.false)) ∙ held _ _ (ap not (sym c.in_whole_group.ensures ∙ c.if-not-in_whole_group.true)))

pub returns : goal.returns
unfolding object_answer not_included not_in_group
returns c =
    sym (behind _ _ _ _ c.sound_answer.ensures c.in_ok-sound_answer.was ∙ passed _ _ (ap not (sym c.includes.ensures ∙ c.if-not-includes.false)) ∙ passed _ _ (ap not (sym c.in_whole_group.ensures ∙ c.if-not-in_whole_group.false)) ∙ none_left)
