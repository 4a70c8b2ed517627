-- Where the line is not whole nothing is answered. Assumes nothing.
use mathlib.Core.Path.{refl}
use native.Mathlib.Omega.{arith}
use Rattle.text.specs.Buffer.{put_text}
use Rattle.text.proofs.BufferLaws.{put_fills}
use Rattle.console.specs.Bench.{answered_line, answered_part}
use Rattle.console.proofs.bench.answer_part.Goals as goal

pub returns-then-not-whole-clause-text_filled : goal.returns-then-not-whole-clause-text_filled
unfolding answered_part answered_line put_text
returns-then-not-whole-clause-text_filled c = rw c.if-not-whole.true (put_fills _ _ _ _ refl (omega arith))
