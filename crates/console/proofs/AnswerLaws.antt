-- How long the lines are: each has room in the buffer that it is written to. Assumes nothing.
use Prim.Native.Nat.{ℕ, zero, suc, ◌*◌, ◌≤◌}
use mathlib.Core.Path.{◌≡◌, refl}
use mathlib.Core.Bool.{Bool, true, false, cond}
use mathlib.Core.List.{List, [], ◌∷◌}
use native.Mathlib.Omega.{arith}
use lib.IntN.{ℤ}
use lib.ListN.{length, length-append}
use Rattle.values.specs.declared.Gain.{Gain}
use Rattle.profile.specs.Counting.{sum}
use Rattle.profile.proofs.ListLaws.{length_concat}
use Rattle.listener.specs.declared.Setting.{Setting}
use Rattle.listener.specs.declared.State.{State}
use Rattle.std.specs.Prelude.{Ok, Err, Option, Some, None}
use Rattle.sheet.specs.Words.{Sheet}
use Rattle.guarantee.specs.Run.{reply}
use Rattle.listener.specs.State.{state_objects, setting, is_resting, refusal_number}
use Rattle.listener.specs.Calls.{Answer}
use Rattle.text.proofs.BytesLaws.{join_length, none_length}
use Rattle.text.proofs.DecimalLaws.{decimal_fits, signed_fits, gain_fits_lem}
use Rattle.console.specs.Answers.{answer_line, words_text, tracks_line, activity_text, name_text, values_text, setting_line, object_line, object_lines, state_lines, listing_line, unknown_line}
use Rattle.console.specs.declared.commands.Command.{Command}
use Rattle.console.specs.declared.commands.Command.TheVariants as command
use Rattle.console.specs.Bench.{call_of, answer_to}

pub answer_fits : (a : Answer) → length (answer_line a) ≤ 29
unfolding answer_line
answer_fits (Ok done) = omega arith
answer_fits (Err r) = simp (join_length, none_length) (omega (arith, decimal_fits (refusal_number r)))

words_fit : (ws : List ℕ) → length (words_text ws) ≤ 21 * length ws
unfolding words_text
words_fit [] = omega arith
words_fit (w ∷ ws) = simp length-append (omega (arith, decimal_fits w, words_fit ws))

pub tracks_fit : (tracks : List ℕ) (a : Answer) → (a ≡ Ok tt → length tracks ≤ 28) → length (tracks_line tracks a) ≤ 600
unfolding tracks_line
tracks_fit tracks (Ok done) l = simp (join_length, none_length) (omega (arith, words_fit tracks, l refl))
tracks_fit tracks (Err r) l = omega (arith, answer_fits (Err r))

activity_fits : (active : Bool) → length (activity_text active) ≤ 9
unfolding activity_text
activity_fits true = omega arith
activity_fits false = omega arith

name_fits : (o : ℕ) (active : Bool) → length (name_text o active) ≤ 36
unfolding name_text
name_fits o active = simp (join_length, none_length) (omega (arith, decimal_fits o, activity_fits active))

values_fit : (g : Gain) (z : ℤ) → length (values_text g z) ≤ 57
unfolding values_text
values_fit g z = simp (join_length, none_length) (omega (arith, gain_fits_lem g, signed_fits z))

setting_fits : (o : ℕ) (x : Setting) → length (setting_line o x) ≤ 93
unfolding setting_line
setting_fits o x = simp (join_length, none_length) (omega (arith, name_fits o x.active, values_fit x.gain x.offset))

object_fits : (o : ℕ) (x : Setting) → length (object_line o x) ≤ 93
unfolding object_line
object_fits o x =
    (elim (is_resting x) as (λ b. length (cond b [] (setting_line o x)) ≤ 93) [
      | true ↦ omega arith
      | false ↦ setting_fits o x
    ])

sum_fits : (f : ℕ → ℕ) (k n : ℕ) → ((i : ℕ) → f i ≤ k) → sum f n ≤ n * k
unfolding sum
sum_fits f k zero h = omega arith
sum_fits f k (suc n) h = omega (arith, sum_fits f k n h, h n)

pub state_fits : (st : State) → length (state_lines st) ≤ 8192
unfolding state_lines object_lines
state_fits st =
    simp (join_length, none_length)
    (omega (
      arith,
      decimal_fits st.programme,
      length_concat (λ o. object_line o (setting st o)) state_objects,
      sum_fits (λ o. length (object_line o (setting st o))) 93 state_objects (λ o. object_fits o (setting st o)),
    ))

-- every answer
pub answer_to_fits : (s : Sheet) (langs : List ℕ) (st : State) (c : Option Command) → length (listing_line s langs st) ≤ 600 → length (answer_to s langs st c) ≤ 8192
unfolding answer_to unknown_line
answer_to_fits s langs st (Some (command.Call c)) l = omega (arith, answer_fits (reply s langs st (call_of c)).answer)
answer_to_fits s langs st (Some command.List) l = omega (arith, l)
answer_to_fits s langs st (Some command.State) l = state_fits st
answer_to_fits s langs st None l = omega arith
