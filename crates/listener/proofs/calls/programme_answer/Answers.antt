-- 27, behind 25 and 26. Assumes nothing.
use mathlib.Core.Path.{sym, ◌∙◌}
use borrow.Author.Rules.{rules}
use borrow.Author.Tests.{le-leb, lt-leb}
use Rattle.listener.specs.Calls.{no_programme, programme_answer}
use Rattle.listener.proofs.AnswerLaws.{behind, handed_on, held, passed, none_left}
use Rattle.listener.proofs.calls.programme_answer.Goals as goal

pub returns-in_err-sound_answer : goal.returns-in_err-sound_answer
unfolding programme_answer
returns-in_err-sound_answer c = handed_on _ _ _ _ c.sound_answer.ensures c.in_err-sound_answer.was (search rules)

pub returns-then-count-p : goal.returns-then-count-p
unfolding programme_answer no_programme
returns-then-count-p c = sym (behind _ _ _ _ c.sound_answer.ensures c.in_ok-sound_answer.was ∙ held _ _ (rw (← c.count.ensures) (le-leb _ _ c.if-count-p.true)))

pub returns : goal.returns
unfolding programme_answer no_programme
returns c = sym (behind _ _ _ _ c.sound_answer.ensures c.in_ok-sound_answer.was ∙ passed _ _ (rw (← c.count.ensures) (lt-leb _ _ c.if-count-p.false)) ∙ none_left)
