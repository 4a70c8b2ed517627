-- What it takes to open a sheet, and what the limits of its level then give. No other of these proofs asks whether the level is 0.
-- Assumes nothing.
use Prim.Native.Nat.{ℕ, zero, suc, ◌≤◌}
use mathlib.Core.Path.{◌≡◌, refl, sym}
use mathlib.Core.Bool.{true, not, true≢false}
use mathlib.Core.List.{List}
use native.Mathlib.Omega.{arith}
use native.Mathlib.Nat.{le_trans}
use borrow.Author.Tests.{eqb-false, ne_eqb, not-true}
use lib.Dec.{eqb}
use Rattle.sheet.specs.Words.{Sheet}
use Rattle.sheet.specs.Layout.{level, count}
use Rattle.sheet.specs.Fields.{objects}
use Rattle.profile.specs.declared.Verdict.{Verdict}
use Rattle.profile.specs.declared.Verdict.TheVariants.{Accepted, Broken}
use Rattle.profile.specs.Limits.{limit, limits, objects_limit, counted_limit}
use Rattle.profile.specs.Relations.{counted_tracks}
use Rattle.profile.specs.Verdict.{verdict}
use Rattle.profile.specs.AcceptedSheet.{AcceptedSheet}
use Rattle.profile.proofs.AcceptedLaws.{accepted_sheet}
use Rattle.profile.proofs.BoolLaws.{and_both}
use Rattle.listener.specs.State.{state_objects}
use Rattle.listener.specs.Calls.{is_accepted, opens}
use Rattle.guarantee.specs.Guarantee.{most_entries}

-- at levels 1 and 2 the objects fit a state, and the counted tracks are the most entries
limits_fit : (n : ℕ) → n ≤ 2 → (n ≡ 0 → ⊥) → (limit n objects_limit ≤ state_objects) × (limit n counted_limit ≤ most_entries n)
unfolding limit limits most_entries
limits_fit zero h e = absurd (e refl)
limits_fit (suc zero) h e = (omega arith, omega arith)
limits_fit (suc (suc zero)) h e = (omega arith, omega arith)
limits_fit (suc (suc (suc n))) h e = absurd (omega arith)

is_accepted_lem : (v : Verdict) → is_accepted v ≡ true → v ≡ Accepted
is_accepted_lem Accepted e = refl
is_accepted_lem (Broken rule place) e = absurd (true≢false (sym e))

-- a sheet accepted above level 0 opens
pub opens_accepted : (s : Sheet) (langs : List ℕ) → verdict s langs ≡ Accepted → (level s ≡ 0 → ⊥) → opens s langs ≡ true
unfolding opens
opens_accepted s langs e h = rw (e, ne_eqb (level s) 0 h)

module _ (s : Sheet) (langs : List ℕ) (e : opens s langs ≡ true) where
  parts : (verdict s langs ≡ Accepted) × (level s ≡ 0 → ⊥)
  unfolding opens
  parts = let both = and_both (is_accepted (verdict s langs)) (not (eqb (level s) 0)) e in (is_accepted_lem (verdict s langs) both.0, eqb-false (level s) 0 (not-true _ both.1))

  pub accepted_opened : AcceptedSheet s
  accepted_opened = accepted_sheet s langs parts.0

  -- a state has all objects of the sheet
  pub few_objects : count s objects ≤ state_objects
  few_objects = le_trans (accepted_opened.objects_most parts.1) (limits_fit (level s) accepted_opened.level_most parts.1).0

  -- the upper bound of a listing
  pub most_counted : counted_tracks s ≤ most_entries (level s)
  most_counted = le_trans (accepted_opened.counted_most parts.1) (limits_fit (level s) accepted_opened.level_most parts.1).1
