-- So much of the input was read, and this is its progress. Assumes nothing.
use mathlib.Core.Path.{◌≡◌}
use lib.ListN.{length}
use Rattle.frameinput.specs.declared.reading.TheConstants.{BLOCKS_ROOM}
use Rattle.frameinput.proofs.ReadingLaws.{Progressed}
use Rattle.frameinput.proofs.reading.read_blocks.Given as goal

abbrev pub invariant-loop : goal.invariant-loop
invariant-loop g l = (length l.buffer ≡ BLOCKS_ROOM) × Progressed (g.R.Read.remaining l.initial.input) (g.R.Read.remaining l.input) l.progress
