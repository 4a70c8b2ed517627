-- Demand 3 for the listening bench: whatever lines it is given, its state is that of a list of calls. And it does not matter how its input
-- is cut into reads. Assumes nothing.
use Prim.Native.Nat.{ℕ}
use mathlib.Core.Path.{◌≡◌, refl, ap, subst}
use mathlib.Core.Bool.{Bool, false}
use mathlib.Core.List.{List, [], ◌∷◌, ◌++◌}
use mathlib.Core.Logic.{◌⊎◌}
use Rattle.std.specs.Prelude.{Option, Some, None}
use Rattle.sheet.specs.Words.{Sheet}
use Rattle.sheet.specs.Layout.{level}
use Rattle.profile.specs.declared.Verdict.TheVariants.{Accepted}
use Rattle.profile.specs.Verdict.{verdict}
use Rattle.listener.specs.declared.State.{State}
use Rattle.listener.specs.Calls.{opened}
use Rattle.guarantee.specs.Run.{reply, run, after, last_chosen}
use Rattle.guarantee.specs.Guarantee.{Promises}
use Rattle.guarantee.proofs.Guaranteed.{listening}
use Rattle.text.specs.Buffer.{Buffer}
use Rattle.text.proofs.BufferLaws.{put_append}
use Rattle.console.specs.declared.commands.Command.{Command}
use Rattle.console.specs.declared.commands.Command.TheVariants as command
use Rattle.console.specs.Bench.{call_of, state_after, obeyed, calls_of, answered_line, answered_part}

-- commands do to the state what the calls among them do
obeyed_run : (s : Sheet) (langs : List ℕ) (st : State) (cs : List (Option Command)) → run s langs st (calls_of cs) ≡ obeyed s langs st cs
unfolding run calls_of obeyed state_after
obeyed_run s langs st [] = refl
obeyed_run s langs st (Some (command.Call c) ∷ cs) = obeyed_run s langs (reply s langs st (call_of c)).state cs
obeyed_run s langs st (Some command.List ∷ cs) = obeyed_run s langs st cs
obeyed_run s langs st (Some command.State ∷ cs) = obeyed_run s langs st cs
obeyed_run s langs st (None ∷ cs) = obeyed_run s langs st cs

-- demand 3: for a sheet accepted at level 1 or 2, after every list of commands from its opening
pub bench_listening : (s : Sheet) (langs : List ℕ) → verdict s langs ≡ Accepted → (level s ≡ 1) ⊎ (level s ≡ 2) → (cs : List (Option Command))
    → Promises s langs (last_chosen s langs (calls_of cs)) (obeyed s langs (opened s langs).state cs)
unfolding after
bench_listening s langs accepted at cs =
    subst (λ (st : State). Promises s langs (last_chosen s langs (calls_of cs)) st) (obeyed_run s langs (opened s langs).state cs) (listening s langs accepted at (calls_of cs)).promises

-- a line that is read in two parts is answered as if it were read at once
pub cut_anywhere : (s : Sheet) (langs : List ℕ) (st : State) (line : Buffer) (a b : List ℕ) (whole : Bool)
    → answered_part s langs st line (a ++ b) whole ≡ answered_part s langs (answered_part s langs st line a false).state (answered_part s langs st line a false).line b whole
unfolding answered_part answered_line
cut_anywhere s langs st line a b whole = ap (λ (l : Buffer). answered_line s langs st l whole) (put_append line a b)
