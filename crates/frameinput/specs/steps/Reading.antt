-- What the bytes behind a frame length get. Assumes nothing.
use Rattle.std.specs.Prelude.{ℕ, ◌≡◌, List, Option, Result, Ok, Err, ⊤, IfSome}
use Rattle.frames.specs.declared.FrameError.{FrameError}
use Rattle.frameinput.specs.declared.Unjudged.{Unjudged}
use Rattle.frameinput.specs.declared.Unjudged.TheVariants.{NoFrameLength, Unread, Unwritten}
use Rattle.frameinput.specs.FrameInput.{bytes_verdict}

-- their verdict, unless a read fails
abbrev pub BlocksJudged : ℕ → Result (Result ⊤ FrameError) Unjudged → Option (List ℕ) → Type 0
BlocksJudged frame (Ok verdict) input = IfSome input (λ bytes. verdict ≡ bytes_verdict frame bytes)
BlocksJudged frame (Err NoFrameLength) input = ⊥
BlocksJudged frame (Err (Unread error)) input = ⊤
BlocksJudged frame (Err (Unwritten error)) input = ⊥
