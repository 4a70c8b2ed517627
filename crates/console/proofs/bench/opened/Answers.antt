-- The opening's answer has room. Assumes nothing.
use native.Mathlib.Omega.{arith}
use Rattle.sheet.specs.Words.{sheet_of, words}
use Rattle.listener.specs.Calls.{opened}
use Rattle.text.proofs.BufferLaws.{appends_fills}
use Rattle.console.proofs.AnswerLaws.{answer_fits}
use Rattle.console.proofs.bench.opened.Goals as goal

pub returns-clause-text_filled : goal.returns-clause-text_filled
returns-clause-text_filled c =
    let new = c.new-text.ensures in
    appends_fills _ _ _ _ new.same_bytes new.empty (rw c.open-opening.ensures at c.put_answer.ensures)
    (omega (arith, answer_fits (opened (sheet_of c.args.lent.sheet.now) (words c.args.lent.langs.now)).answer))
