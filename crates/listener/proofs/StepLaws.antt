-- The steps of the code come to the machine's definitions. Assumes nothing.
use Prim.Native.Nat.{ℕ, zero, suc, ◌+◌, ◌<◌}
use mathlib.Core.Path.{◌≡◌, refl, ap, ap₂, ◌∙◌}
use mathlib.Core.Bool.{Bool, true, false, cond, ◌&&◌}
use mathlib.Core.List.{List}
use native.Mathlib.Omega.{arith}
use borrow.Author.Tests.{lt-ltb}
use lib.Dec.{ltb}
use lib.ListN.{get_or, replicate, drop}
use borrow.Rule.Slice.PartMut.{mid_of}
use Rattle.std.proofs.lemmas.List.{get_or-take, get_or-drop}
use Rattle.sheet.specs.Words.{Sheet}
use Rattle.profile.specs.Counting.{every}
use Rattle.tables.specs.declared.Naming.TheVariants.{Complements}
use Rattle.tables.specs.steps.Marks.{Standing, first_by}
use Rattle.tables.specs.steps.Right.{Leaders}
use Rattle.tables.proofs.MarkLaws.{nought}
use Rattle.listener.specs.declared.Setting.{Setting}
use Rattle.listener.specs.declared.State.{State}
use Rattle.listener.specs.State.{state_objects, blank, setting, active}
use Rattle.listener.specs.Sound.{active_members, sound_activity}
use Rattle.granted.specs.steps.Activity.{activity_by}
use Rattle.tables.specs.steps.Members.{how_many_members}

-- a pass over a table of noughts
pub leaders_made : (s : Sheet) (n : ℕ) (t : List ℕ) → Standing (λ x. first_by s Complements x (get_or (replicate n 0) x 0)) t → Leaders s t
leaders_made s n t h x l = h x l ∙ ap (first_by s Complements x) (nought n x)

-- two tests in either order
pub and_swap : (a b : Bool) → (a && b) ≡ (b && a)
and_swap true true = refl
and_swap false true = refl
and_swap true false = refl
and_swap false false = refl

pub every_eq : (p q : ℕ → Bool) (n : ℕ) → ((k : ℕ) → k < n → p k ≡ q k) → every p n ≡ every q n
unfolding every
every_eq p q zero h = refl
every_eq p q (suc n) h = ap₂ (λ (a b : Bool). a && b) (every_eq p q n (λ k l. h k (omega arith))) (h n (omega arith))

pub past_active : (st : State) (o : ℕ) → ltb o state_objects ≡ false → active st o ≡ false
unfolding active setting
past_active st o e = ap (λ (b : Bool). (cond b (get_or st.objects o blank) blank).active) e

-- a state's element is its setting
pub element_setting : (st : State) (o : ℕ) → o < state_objects → get_or st.objects o blank ≡ setting st o
unfolding setting
element_setting st o l = rw (lt-ltb o state_objects l) refl

-- of the part from n on
pub part_setting : (st : State) (n k i : ℕ) → n + k ≡ state_objects → i < k → get_or (mid_of n k st.objects) i blank ≡ setting st (n + i)
part_setting st n k i e l = rw (get_or-take k (drop n st.objects) i blank l, get_or-drop n st.objects i blank) (element_setting st (n + i) (omega arith))

pub element_active : (st : State) (o : ℕ) → o < state_objects → (get_or st.objects o blank).active ≡ active st o
unfolding active
element_active st o l = ap (λ (x : Setting). x.active) (element_setting st o l)

-- activity by which objects are active is that of the state
pub activity_active : (s : Sheet) (st : State) (o : ℕ) → activity_by s st.programme (active st) o ≡ sound_activity s st o
unfolding activity_by sound_activity active_members how_many_members
activity_active s st o = refl
