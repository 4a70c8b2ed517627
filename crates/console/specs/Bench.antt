-- The listening bench: what a command does to the listener's state, and what it is answered. All its calls are lent one sheet, `s`, and
-- one list of languages, `langs`. Assumes nothing.
use Rattle.std.specs.Prelude.{ℕ, Bool, true, false, cond, not, List, [], ◌∷◌, ◌++◌, Option, Some, None, eqb}
use Rattle.sheet.specs.Words.{Sheet}
use Rattle.listener.specs.declared.State.{State}
use Rattle.listener.specs.Calls.{opened}
use Rattle.guarantee.specs.Run as run
use Rattle.guarantee.specs.Run.{reply}
use Rattle.text.specs.Lines.{said, lines}
use Rattle.text.specs.Buffer.{Buffer, buffer, kept, put_byte, put_text}
use Rattle.console.specs.declared.commands.Call.{Call}
use Rattle.console.specs.declared.commands.Call.TheVariants.{Programme, Object, Gain, Offset}
use Rattle.console.specs.declared.commands.Command.{Command}
use Rattle.console.specs.declared.commands.Command.TheVariants as command
use Rattle.console.specs.Commands.{command_of}
use Rattle.console.specs.Answers.{answer_line, listing_line, state_lines, unknown_line}

-- the machine's call
unfoldable pub call_of : Call → run.Call
call_of (Programme p) = run.Call.programme p
call_of (Object o) = run.Call.object o
call_of (Gain o g) = run.Call.gain o g
call_of (Offset o z) = run.Call.offset o z

-- the state after a command: only a call changes it
unfoldable pub state_after : Sheet → List ℕ → State → Option Command → State
state_after s langs st (Some (command.Call c)) = (reply s langs st (call_of c)).state
state_after s langs st (Some command.List) = st
state_after s langs st (Some command.State) = st
state_after s langs st None = st

-- what is answered
unfoldable pub answer_to : Sheet → List ℕ → State → Option Command → List ℕ
answer_to s langs st (Some (command.Call c)) = answer_line (reply s langs st (call_of c)).answer
answer_to s langs st (Some command.List) = listing_line s langs st
answer_to s langs st (Some command.State) = state_lines st
answer_to s langs st None = unknown_line

-- the state after a list of commands
unfoldable pub obeyed : Sheet → List ℕ → State → List (Option Command) → State
obeyed s langs st [] = st
obeyed s langs st (c ∷ cs) = obeyed s langs (state_after s langs st c) cs

-- the calls among them
unfoldable pub calls_of : List (Option Command) → List run.Call
calls_of [] = []
calls_of (Some (command.Call c) ∷ cs) = call_of c ∷ calls_of cs
calls_of (Some command.List ∷ cs) = calls_of cs
calls_of (Some command.State ∷ cs) = calls_of cs
calls_of (None ∷ cs) = calls_of cs

-- the state, the line that is being read, and what is answered
pub record Turn : Type 0 where
  pub state : State
  pub line : Buffer
  pub answer : List ℕ

-- a line that is whole is answered, and the next one begins
unfoldable pub answered_line : Sheet → List ℕ → State → Buffer → Bool → Turn
answered_line s langs st line true =
    let c = command_of (said (kept line)) in
    record { state = state_after s langs st c; line = buffer line.bytes 0; answer = answer_to s langs st c }
answered_line s langs st line false = record { state = st; line = line; answer = [] }

-- more bytes of the line were read, and it is whole or not
unfoldable pub answered_part : Sheet → List ℕ → State → Buffer → List ℕ → Bool → Turn
answered_part s langs st line more whole = answered_line s langs st (put_text line more) whole

-- a byte of the line was read
unfoldable pub answered_byte : Sheet → List ℕ → State → Buffer → ℕ → Turn
answered_byte s langs st line b = cond (eqb b 10) (answered_line s langs st line true) (answered_line s langs st (put_byte line b) false)

-- what is written for an input from here on, where the line was begun: a newline, which is 10, ends the line, and it is answered; at the end of
-- the input a line without one is answered, unless it is empty
unfoldable pub answers_from : Sheet → List ℕ → State → Buffer → List ℕ → List ℕ
answers_from s langs st line [] = (answered_line s langs st line (not (eqb line.count 0))).answer
answers_from s langs st line (b ∷ input) =
    let t = answered_byte s langs st line b in
    t.answer ++ answers_from s langs t.state t.line input

-- what is written for lines, each answered in the state that those before it left
unfoldable pub lines_answered : Sheet → List ℕ → State → List (List ℕ) → List ℕ
lines_answered s langs st [] = []
lines_answered s langs st (line ∷ rest) =
    let c = command_of (said line) in
    answer_to s langs st c ++ lines_answered s langs (state_after s langs st c) rest

-- what the program `listen` writes for an input: the opening's answer, and those to the lines of the input
unfoldable pub bench_text : Sheet → List ℕ → List ℕ → List ℕ
bench_text s langs input = answer_line (opened s langs).answer ++ lines_answered s langs (opened s langs).state (lines input)
