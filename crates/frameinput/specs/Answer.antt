-- What an input gets, where the bytes of input and output are known. Assumes nothing.
use Rattle.std.specs.Prelude.{ℕ, ◌≡◌, List, Option, Some, None, Result, Ok, Err, ⊤, IfSome}
use Rattle.std.specs.Io.KnownBytes.{Appends, Keeps}
use Rattle.frames.specs.declared.FrameError.{FrameError}
use Rattle.frameinput.specs.declared.Unjudged.{Unjudged}
use Rattle.frameinput.specs.declared.Unjudged.TheVariants.{NoFrameLength, Unread, Unwritten}
use Rattle.frameinput.specs.FrameInput.{input_verdict}
use Rattle.frameinput.specs.FrameLine.{frame_line}

-- its verdict; an input without a frame length has none
abbrev pub Judged : Result (Result ⊤ FrameError) Unjudged → Option (List ℕ) → Type 0
Judged (Ok verdict) input = IfSome input (λ bytes. input_verdict bytes ≡ Some verdict)
Judged (Err NoFrameLength) input = IfSome input (λ bytes. input_verdict bytes ≡ None)
Judged (Err (Unread error)) input = ⊤
Judged (Err (Unwritten error)) input = ⊥

-- The line of its verdict. Nothing is written where there is no frame length, or after a read that failed. What a write that failed left is not
-- said, as std's `write_all` does not say it.
abbrev pub Answered : Result ⊤ Unjudged → Option (List ℕ) → Option (List ℕ) → Option (List ℕ) → Type 0
Answered (Ok done) input before after = IfSome input (λ bytes. (v : Result ⊤ FrameError) × (input_verdict bytes ≡ Some v) × Appends before after (frame_line v))
Answered (Err NoFrameLength) input before after = IfSome input (λ bytes. input_verdict bytes ≡ None) × Keeps before after
Answered (Err (Unread error)) input before after = Keeps before after
Answered (Err (Unwritten error)) input before after = IfSome input (λ bytes. (v : Result ⊤ FrameError) × (input_verdict bytes ≡ Some v))
