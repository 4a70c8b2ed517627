-- A state's settings in two parts: those of objects that the programme may include, and the rest. Assumes nothing.
use Prim.Native.Nat.{ℕ, zero, suc, ◌+◌, ◌<◌, ◌≤◌, max}
use mathlib.Core.Path.{◌≡◌, refl, sym, ap, subst, ◌∙◌}
use mathlib.Core.Bool.{Bool, true, false, ◌&&◌, ◌||◌}
use mathlib.Core.Logic.{⊎_elim}
use native.Mathlib.Omega.{arith}
use native.Mathlib.Nat.{le_of_suc-le-suc, eq-or-lt_of_le}
use native.Mathlib.Numerals.{add-one}
use borrow.Author.Tests.{lt-ltb, le-ltb, ltb-false, ne_eqb}
use lib.Dec.{eqb, ltb}
use Rattle.sheet.specs.Words.{Sheet}
use Rattle.sheet.specs.Layout.{count}
use Rattle.sheet.specs.Fields.{programmes}
use Rattle.profile.specs.Counting.{any, every}
use Rattle.profile.specs.Relations.{includes}
use Rattle.profile.proofs.ListLaws.{every_all}
use Rattle.listener.specs.declared.State.{State}
use Rattle.listener.specs.State.{state_objects, resting, setting, is_resting}
use Rattle.listener.specs.Programme.{start_setting}
use Rattle.listener.specs.Sound.{sound_at, sound}
use Rattle.listener.specs.steps.Settings.{resting_from}
use Rattle.listener.proofs.StepLaws.{every_eq}

and_swap : (a b c : Bool) → ((a && b) && c) ≡ ((a && c) && b)
and_swap false b c = refl
and_swap true true true = refl
and_swap true true false = refl
and_swap true false true = refl
and_swap true false false = refl

every_more : (f : ℕ → Bool) (m : ℕ) → every f (suc m) ≡ (every f m && f m)
unfolding every
every_more f m = refl

-- a test of the numbers below m is one of those from n on, and one of those below n
module _ (f : ℕ → Bool) (n : ℕ) where
  abbrev from : ℕ → Bool
  from o = ltb o n || f o

  from_below : every from n ≡ true
  from_below = every_all from n (λ k l. ap (λ (b : Bool). b || f k) (lt-ltb k n l))

  at_end : (m : ℕ) → n ≡ m → every f m ≡ (every from m && every f n)
  at_end m q = subst (λ (k : ℕ). every f k ≡ (every from k && every f n)) q (sym (ap (λ (b : Bool). b && every f n) from_below))

  past_end : (m : ℕ) → n ≤ m → every f m ≡ (every from m && every f n) → every f (suc m) ≡ (every from (suc m) && every f n)
  past_end m l e =
      every_more f m
      ∙ ap (λ (b : Bool). b && f m) e
      ∙ and_swap (every from m) (every f n) (f m)
      ∙ ap (λ (b : Bool). (every from m && (b || f m)) && every f n) (sym (le-ltb m n l))
      ∙ ap (λ (b : Bool). b && every f n) (sym (every_more from m))

  every_parts : (m : ℕ) → n ≤ m → every f m ≡ (every from m && every f n)
  every_parts zero l = at_end zero (omega arith)
  every_parts (suc m) l =
      ⊎_elim (λ q. at_end (suc m) q) (λ r. past_end m (le_of_suc-le-suc r) (every_parts m (le_of_suc-le-suc r))) (eq-or-lt_of_le l)

-- before the numbers from n on are tested, the test is what it was
pub from_none : (f : ℕ → Bool) (n : ℕ) (b : Bool) → b ≡ (b && every (λ o. ltb o n || f o) n)
from_none f n true = sym (from_below f n)
from_none f n false = refl

module _ (s : Sheet) (st : State) (n : ℕ) where
  rest_at : (k : ℕ) → (n ≤ k → includes s st.programme k ≡ false) → (ltb k n || sound_at s st k) ≡ (ltb k n || is_resting (setting st k))
  unfolding sound_at
  rest_at k h =
      (elim (ltb k n) as (λ b. ltb k n ≡ b → (b || sound_at s st k) ≡ (b || is_resting (setting st k))) [
        | true ↦ λ e. refl
        | false ↦ λ e. rw (h (ltb-false k n e)) refl
      ]) refl

  -- where the programme includes none of the numbers from n on
  rest_sound : n ≤ state_objects → ((o : ℕ) → n ≤ o → o < state_objects → includes s st.programme o ≡ false)
      → every (sound_at s st) state_objects ≡ (resting_from st n && every (sound_at s st) n)
  unfolding resting_from
  rest_sound l h =
      every_parts (sound_at s st) n state_objects l
      ∙ ap (λ (b : Bool). b && every (sound_at s st) n)
      (every_eq (λ o. ltb o n || sound_at s st o) (λ o. ltb o n || is_resting (setting st o)) state_objects (λ k m. rest_at k (λ z. h k z m)))

  pub sound_parts : n ≤ state_objects → ((o : ℕ) → n ≤ o → o < state_objects → includes s st.programme o ≡ false) → st.programme < count s programmes
      → sound s st ≡ (resting_from st n && every (sound_at s st) n)
  unfolding sound
  sound_parts l h m = rw (lt-ltb st.programme (count s programmes) m) (rest_sound l h)

-- what a programme doesn't include starts at rest
pub rest_start : (s : Sheet) (p k : ℕ) → includes s p k ≡ false → resting ≡ start_setting s p k
unfolding start_setting
rest_start s p k e = rw e refl

-- one more than the highest number below `state_objects` that f gives so far: what is higher is none of them
abbrev pub Past : (ℕ → ℕ) → ℕ → ℕ → Type 0
Past f i past = (o : ℕ) → past ≤ o → o < state_objects → any (λ k. eqb (f k) o) i ≡ false

any_more : (f : ℕ → ℕ) (i o : ℕ) → any (λ k. eqb (f k) o) i ≡ false → (f i ≡ o → ⊥) → any (λ k. eqb (f k) o) (i + 1) ≡ false
unfolding any
any_more f i o e n = rw (add-one, e, ne_eqb (f i) o n)

module _ (f : ℕ → ℕ) (i past : ℕ) (h : Past f i past) where
  -- a turn that raises it, or not
  pub past_raised : (v r : ℕ) → v ≡ f i → r ≡ max past (v + 1) → past ≤ state_objects → v < state_objects → (r ≤ state_objects) × Past f (i + 1) r
  past_raised v r p q l m = (omega (arith, q), λ o a b. any_more f i o (h o (omega (arith, q)) b) (λ e. omega (arith, p, q)))

  pub past_left : (v r : ℕ) → v ≡ f i → r ≡ past → past ≤ state_objects → state_objects ≤ v → (r ≤ state_objects) × Past f (i + 1) r
  past_left v r p q l m = (omega arith, λ o a b. any_more f i o (h o (omega (arith, q)) b) (λ e. omega (arith, p)))
