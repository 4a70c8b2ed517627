-- What was read of an input, and the verdict on all of it. Assumes nothing.
use Prim.Native.Nat.{ℕ, ◌%◌}
use mathlib.Core.Path.{◌≡◌, refl, sym, ap, ◌∙◌}
use mathlib.Core.List.{List, [], ◌++◌, append-nil}
use native.Mathlib.Omega.{arith}
use lib.Dec.{eqb}
use lib.ListN.{length, length-append}
use Rattle.std.specs.Prelude.{Option, Some, None, IfSome, not}
use Rattle.std.specs.Io.KnownBytes.{Consumes, IsAtEnd}
use Rattle.std.proofs.KnownBytes.{Consumes-nil, Consumes-trans}
use Rattle.std.proofs.lemmas.List.Sums.{fold-append}
use Rattle.frames.specs.declared.progress.Progress.{Progress}
use Rattle.frames.specs.Blocks.{blocks}
use Rattle.frames.specs.steps.Progress.{no_progress, after_block, after_blocks, verdict_after}
use Rattle.frames.proofs.ProgressLaws.{blocks_told}
use Rattle.frameinput.specs.FrameInput.{numbers, bytes_verdict}
use Rattle.frameinput.proofs.NumberLaws.{bytes_append}

-- whole blocks were read, and this is their progress
pub record Progressed (input left : Option (List ℕ)) (progress : Progress) : Type 0 where
  pub read : List ℕ
  pub consumed : Consumes input left read
  pub whole : length read % 12 ≡ 0
  pub told : progress ≡ after_blocks no_progress (blocks (numbers read))

pub none_read : (input : Option (List ℕ)) → Progressed input input no_progress
unfolding numbers blocks
none_read input = record { read = []; consumed = Consumes-nil input; whole = refl; told = refl }

-- at the end of the input
judged : (frame : ℕ) (bytes : List ℕ) → verdict_after (after_blocks no_progress (blocks (numbers bytes))) frame (not (eqb (length bytes % 12) 0)) ≡ bytes_verdict frame bytes
unfolding bytes_verdict
judged frame bytes = blocks_told (blocks (numbers bytes)) frame _

whole_input : (input behind : Option (List ℕ)) (frame : ℕ) (bytes : List ℕ) → Consumes input behind bytes → IsAtEnd behind
    → IfSome input (λ all. verdict_after (after_blocks no_progress (blocks (numbers bytes))) frame (not (eqb (length bytes % 12) 0)) ≡ bytes_verdict frame all)
whole_input None behind frame bytes c e = tt
whole_input (Some all) None frame bytes c e = absurd c
whole_input (Some all) (Some rest) frame bytes c e =
    let whole : all ≡ bytes = c ∙ ap (λ l. bytes ++ l) e ∙ append-nil bytes in rw whole (judged frame bytes)

-- more bytes
module _ (input left behind : Option (List ℕ)) (progress : Progress) (bytes : List ℕ) (p : Progressed input left progress) (c : Consumes left behind bytes) where
  told_more : after_blocks progress (blocks (numbers bytes)) ≡ after_blocks no_progress (blocks (numbers (p.read ++ bytes)))
  told_more = rw (p.told, bytes_append p.read bytes p.whole) (sym (fold-append after_block no_progress (blocks (numbers p.read)) (blocks (numbers bytes))))

  pub more_read : length bytes % 12 ≡ 0 → Progressed input behind (after_blocks progress (blocks (numbers bytes)))
  more_read w = record {
    read = p.read ++ bytes;
    consumed = Consumes-trans input left behind p.read bytes p.consumed c;
    whole = rw (length-append p.read bytes) (omega (arith, w, p.whole));
    told = told_more;
  }

  -- the last of them, n bytes
  pub all_read : (frame n : ℕ) → n ≡ length bytes → IsAtEnd behind
      → IfSome input (λ all. verdict_after (after_blocks progress (blocks (numbers bytes))) frame (not (eqb (n % 12) 0)) ≡ bytes_verdict frame all)
  all_read frame n m e =
      let part : n % 12 ≡ length (p.read ++ bytes) % 12 = rw (length-append p.read bytes) (omega (arith, p.whole, m)) in
      rw (told_more, part) (whole_input input behind frame (p.read ++ bytes) (Consumes-trans input left behind p.read bytes p.consumed c) e)
