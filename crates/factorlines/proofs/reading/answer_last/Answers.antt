-- By whether a line is left. Assumes nothing.
use native.Mathlib.Omega.{arith}
use borrow.Author.Tests.{eq-eqb, ne_eqb}
use mathlib.Core.Path.{refl}
use Rattle.text.proofs.BufferLaws.{appends_fills, put_fills}
use Rattle.text.specs.Buffer.{put_text, written, kept}
use Rattle.factorlines.specs.Reading.{last_answer}
use Rattle.factorlines.proofs.LengthLaws.{line_fits}
use Rattle.factorlines.proofs.reading.answer_last.Goals as goal

pub returns-then-line-eq0 : goal.returns-then-line-eq0
unfolding last_answer put_text
returns-then-line-eq0 c = rw (eq-eqb _ _ c.if-line-eq0.true) (put_fills _ _ _ _ refl (omega arith))

pub returns : goal.returns
unfolding last_answer
returns c =
    let new = c.new-answer.ensures in
    rw (ne_eqb _ _ c.if-line-eq0.false)
    (appends_fills _ _ _ _ new.same_bytes new.empty (rw c.as_bytes.ensures at c.put_factor_line.ensures) (omega (arith, line_fits (kept (written c.args.line.now)))))
