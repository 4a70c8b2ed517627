-- The frame length stands in front. Assumes nothing.
use Prim.Native.Nat.{ℕ, ◌<◌}
use mathlib.Core.Path.{◌≡◌, refl, ap, ◌∙◌}
use mathlib.Core.List.{List, [], ◌∷◌, ◌++◌, append-nil}
use native.Mathlib.Omega.{arith}
use lib.ListN.{length}
use Rattle.std.specs.Prelude.{Option, Some, None, IfSome, Result, Ok, Err, ⊤}
use Rattle.std.specs.Int.{from_be_bytes, w32}
use Rattle.std.specs.Io.KnownBytes.{Consumes, IsAtEnd}
use Rattle.frames.specs.declared.FrameError.{FrameError}
use Rattle.frameinput.specs.declared.Unjudged.{Unjudged}
use Rattle.frameinput.specs.declared.Unjudged.TheVariants.{NoFrameLength, Unread, Unwritten}
use Rattle.frameinput.specs.Answer.{Judged}
use Rattle.frameinput.specs.steps.Reading.{BlocksJudged}
use Rattle.frameinput.specs.FrameInput.{bytes_verdict, input_verdict}

short : (bytes : List ℕ) → length bytes < 4 → input_verdict bytes ≡ None
unfolding input_verdict
short [] l = refl
short (a ∷ []) l = refl
short (a ∷ b ∷ []) l = refl
short (a ∷ b ∷ c ∷ []) l = refl
short (a ∷ b ∷ c ∷ d ∷ bytes) l = absurd (omega (arith, l))

pub no_head : (input behind : Option (List ℕ)) (head : List ℕ) → length head < 4 → Consumes input behind head → IsAtEnd behind
    → IfSome input (λ bytes. input_verdict bytes ≡ None)
no_head None behind head l c e = tt
no_head (Some bytes) None head l c e = absurd c
no_head (Some bytes) (Some rest) head l c e =
    let whole : bytes ≡ head = c ∙ ap (λ t. head ++ t) e ∙ append-nil head in rw whole (short head l)

in_front : (head rest : List ℕ) → length head ≡ 4 → input_verdict (head ++ rest) ≡ Some (bytes_verdict (from_be_bytes w32 head) rest)
unfolding input_verdict
in_front [] rest l = absurd (omega (arith, l))
in_front (a ∷ []) rest l = absurd (omega (arith, l))
in_front (a ∷ b ∷ []) rest l = absurd (omega (arith, l))
in_front (a ∷ b ∷ c ∷ []) rest l = absurd (omega (arith, l))
in_front (a ∷ b ∷ c ∷ d ∷ []) rest l = refl
in_front (a ∷ b ∷ c ∷ d ∷ e ∷ bytes) rest l = absurd (omega (arith, l))

head_read : (input behind : Option (List ℕ)) (head : List ℕ) (verdict : Result ⊤ FrameError) → length head ≡ 4 → Consumes input behind head
    → IfSome behind (λ rest. verdict ≡ bytes_verdict (from_be_bytes w32 head) rest) → IfSome input (λ bytes. input_verdict bytes ≡ Some verdict)
head_read None behind head v l c e = tt
head_read (Some bytes) None head v l c e = absurd c
head_read (Some bytes) (Some rest) head v l c e = rw (c, e) (in_front head rest l)

pub head_judged : (input behind : Option (List ℕ)) (head : List ℕ) (r : Result (Result ⊤ FrameError) Unjudged) → length head ≡ 4 → Consumes input behind head
    → BlocksJudged (from_be_bytes w32 head) r behind → Judged r input
head_judged input behind head (Ok v) l c j = head_read input behind head v l c j
head_judged input behind head (Err NoFrameLength) l c j = absurd j
head_judged input behind head (Err (Unread error)) l c j = tt
head_judged input behind head (Err (Unwritten error)) l c j = absurd j
