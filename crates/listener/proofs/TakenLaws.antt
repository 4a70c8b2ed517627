-- What a listing that is done tells, and the words that it wrote. Assumes nothing.
use Prim.Native.Nat.{ℕ, ◌+◌, ◌≤◌}
use mathlib.Core.Path.{◌≡◌, refl, sym, ap, ◌∙◌}
use mathlib.Core.Bool.{true≢false}
use mathlib.Core.List.{List}
use native.Mathlib.Omega.{arith}
use lib.ListN.{length, take, drop}
use lib.Seq.{sets, length-sets, sets-eq, take-append_seam}
use Rattle.std.specs.Prelude.{Result, Ok, Err, is_ok}
use Rattle.listener.specs.declared.Refusal.{Refusal}
use Rattle.listener.specs.Calls.{Answer}
use Rattle.listener.specs.Listing.{listed_by, buffered_by}

refusal_or : {X : Type 0} → Refusal → Result X Refusal → Refusal
refusal_or q (Ok x) = q
refusal_or q (Err r) = r

number_or : ℕ → Result ℕ Refusal → ℕ
number_or d (Ok n) = n
number_or d (Err r) = d

refused_by : (n : ℕ) (a : Answer) (q : Refusal) → listed_by n a ≡ Err q → a ≡ Err q
unfolding refusal_or
refused_by n (Ok done) q e = absurd (true≢false (ap is_ok e))
refused_by n (Err r) q e = ap Err (ap (refusal_or r) e)

done_by : (n : ℕ) (a : Answer) (k : ℕ) → listed_by n a ≡ Ok k → (a ≡ Ok tt) × (k ≡ n)
unfolding number_or
done_by n (Ok done) k e = (refl, sym (ap (number_or n) e))
done_by n (Err r) k e = absurd (true≢false (ap is_ok (sym e)))

taken : (ws ts : List ℕ) (n : ℕ) → length ts ≡ n → n ≤ length ws → take n (sets ws 0 ts) ≡ ts
taken ws ts n e l = rw (← e, sets-eq ts ws 0 (omega arith)) (take-append_seam ts (drop (0 + length ts) ws))

-- a listing of n tracks, by the answer a
module _ (r : Result ℕ Refusal) (n : ℕ) (a : Answer) (e : r ≡ listed_by n a) where
  pub told_refusal : (q : Refusal) → r ≡ Err q → a ≡ Err q
  told_refusal q f = refused_by n a q (sym e ∙ f)

  pub told_number : (k : ℕ) → r ≡ Ok k → (a ≡ Ok tt) × (k ≡ n)
  told_number k f = done_by n a k (sym e ∙ f)

-- the words after a listing that is done
module _ (words buffer tracks : List ℕ) (a : Answer) (f : words ≡ buffered_by buffer tracks a) (d : a ≡ Ok tt) where
  buffer_done : words ≡ sets buffer 0 tracks
  unfolding buffered_by
  buffer_done = f ∙ rw d refl

  pub told_length : length words ≡ length buffer
  told_length = ap length buffer_done ∙ length-sets buffer 0 tracks

  pub told_tracks : (n : ℕ) → length tracks ≡ n → n ≤ length buffer → take n words ≡ tracks
  told_tracks n l m = rw buffer_done (taken buffer tracks n l m)
