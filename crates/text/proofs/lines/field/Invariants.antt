-- The fields of the rest are the line's from the turn's number on. Assumes nothing.
use Rattle.std.proofs.Common.{◌≡◌, drop}
use Rattle.text.specs.Lines.{fields}
use Rattle.text.proofs.lines.field.Given as goal

abbrev pub invariant-loop : goal.invariant-loop
invariant-loop l = fields l.rest ≡ drop l.counter (fields l.fn.line)
