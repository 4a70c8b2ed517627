use mathlib.Core.Path.{refl}
use mathlib.Core.List.{[]}
use native.Mathlib.Omega.{arith}
use lib.Seq.{take_all}
use Rattle.text.specs.Buffer.{written}
use Rattle.text.proofs.BufferLaws.{appends_fills}
use Rattle.factorlines.specs.Reading.{reading}
use Rattle.factorlines.proofs.LengthLaws.{read_fits}
use Rattle.factorlines.proofs.ReadingLaws.{none_taken, newline_taken, byte_taken}
use Rattle.factorlines.proofs.reading.answer_read.Goals.{then-byte-eq10, else-byte-eq10}
use Rattle.factorlines.proofs.reading.answer_read.Goals as goal

pub loop-byte-init : goal.loop-byte-init
loop-byte-init c = none_taken _ _ _ _ refl

pub loop-byte-preserved : goal.loop-byte-preserved
loop-byte-preserved c =
    elim c.if-byte-eq10.branch [
      | then-byte-eq10 w ↦
          rw (w.line-is, w.text-is)
          (newline_taken _ _ _ _ c.loop-byte.line _ _ c.loop-byte-test.true c.loop-byte.invariant _ _ w.if-byte-eq10.true (rw w.as_bytes.ensures at w.put_factor_line.ensures) w.clear.ensures.same_buffer w.clear.ensures.same_bytes w.clear.ensures.empty)
      | else-byte-eq10 w ↦
          rw (w.line-is, w.text-is) (byte_taken _ _ _ _ _ _ _ c.loop-byte-test.true c.loop-byte.invariant _ w.if-byte-eq10.false w.byte.ensures)
    ]

pub returns-clause-text_filled : goal.returns-clause-text_filled
returns-clause-text_filled c = λ h.
    let new = c.new-text.ensures in let bytes = c.args.read.now in
    appends_fills _ _ _ _ new.same_bytes new.empty (rw (take_all c.loop-byte.byte-index bytes c.loop-byte-test.false) at c.loop-byte.invariant.answered)
    (omega (arith, read_fits (reading (written c.args.line.now) []) bytes, h))
