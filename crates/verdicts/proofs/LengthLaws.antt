-- A verdict's line has room in the buffer that it is written to. Assumes nothing.
use Prim.Native.Nat.{◌≤◌}
use native.Mathlib.Omega.{arith}
use lib.ListN.{length}
use Rattle.profile.specs.declared.Verdict.{Verdict}
use Rattle.profile.specs.declared.Verdict.TheVariants.{Accepted, Broken}
use Rattle.profile.specs.Verdict.{section_of, record_of}
use Rattle.text.proofs.DecimalLaws.{decimal_fits}
use Rattle.text.proofs.BytesLaws.{join_length, none_length}
use Rattle.verdicts.specs.VerdictLine.{verdict_line}

pub verdict_fits : (v : Verdict) → length (verdict_line v) ≤ 128
unfolding verdict_line
verdict_fits Accepted = omega arith
verdict_fits (Broken rule place) =
    simp (join_length, none_length) (omega (arith, decimal_fits rule, decimal_fits (section_of place), decimal_fits (record_of place)))
