-- The line of the verdict has room. Assumes nothing.
use native.Mathlib.Omega.{arith}
use Rattle.checker.specs.Checked.{checked}
use Rattle.verdicts.proofs.LengthLaws.{verdict_fits}
use Rattle.text.proofs.BufferLaws.{appends_fills}
use Rattle.verdicts.proofs.verdict_line.Goals as goal

pub returns : goal.returns
returns c =
    let new = c.new-text.ensures in
    appends_fills _ _ _ _ new.same_bytes new.empty (rw c.check.ensures at c.put_verdict.ensures) (omega (arith, verdict_fits (checked c.args.sheet.now c.args.langs.now)))
