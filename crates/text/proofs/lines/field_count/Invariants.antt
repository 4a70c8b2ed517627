-- The fields counted, and those of the rest, are the line's; each had a byte. Assumes nothing.
use Rattle.std.proofs.Common.{◌≡◌, ◌≤◌, ◌+◌, length}
use Rattle.text.specs.Lines.{fields}
use Rattle.text.proofs.lines.field_count.Given as goal

abbrev pub invariant-loop-count : goal.invariant-loop-count
invariant-loop-count l = (length (fields l.fn.line) ≡ l.count + length (fields l.rest)) × (l.count + length l.rest ≤ length l.fn.line)
