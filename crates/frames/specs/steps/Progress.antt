-- What the code keeps of the blocks so far, and what a block more makes of it. Assumes nothing.
use Rattle.std.specs.Prelude.{ℕ, ◌+◌, Bool, false, true, not, ◌||◌, cond, eqb, Result, ⊤, List, fold}
use Rattle.frames.specs.declared.Block.{Block}
use Rattle.frames.specs.declared.FrameError.{FrameError}
use Rattle.frames.specs.declared.progress.Progress.{Progress}
use Rattle.frames.specs.Conformance.{legal_length, first_error}

abbrev pub progress : Bool → Bool → Bool → ℕ → Progress
progress some not_first bad end = record { has_block = some; initialising_not_first = not_first; has_bad_block = bad; end = end }

abbrev pub no_progress : Progress
no_progress = progress false false false 0

-- one block more: its start is to be the end of those before it
unfoldable pub after_block : Progress → Block → Progress
after_block p b =
    cond b.initialising
    (progress true (p.initialising_not_first || p.has_block) p.has_bad_block p.end)
    (progress true p.initialising_not_first (p.has_bad_block || not (eqb b.start p.end) || not (legal_length b.length)) (b.start + b.length))

abbrev pub after_blocks : Progress → List Block → Progress
after_blocks p bs = fold after_block p bs

unfoldable pub verdict_after : Progress → ℕ → Bool → Result ⊤ FrameError
verdict_after p frame unfinished = first_error p.initialising_not_first (p.has_bad_block || unfinished) (not p.has_block || not (eqb p.end frame))
