-- The calls' answers and replies in the steps of the code. Assumes nothing.
use Prim.Native.Nat.{ℕ, ◌<◌, ◌≤◌}
use mathlib.Core.Path.{◌≡◌, refl, sym, ap, ◌∙◌}
use mathlib.Core.Bool.{true≢false, Bool, true, false, cond}
use mathlib.Core.List.{List, [], ◌∷◌}
use borrow.Author.Tests.{lt-ltb, le-ltb}
use lib.ListN.{set}
use Rattle.std.specs.Prelude.{Ok, Err, is_ok}
use Rattle.listener.specs.declared.Setting.{Setting}
use Rattle.listener.specs.declared.State.{State}
use Rattle.listener.specs.declared.Refusal.{Refusal}
use Rattle.listener.specs.declared.Reply.{Reply}
use Rattle.listener.specs.State.{state_objects}
use Rattle.sheet.specs.Words.{Sheet}
use Rattle.listener.specs.Calls.{Answer, Ground, answer_by, chosen_programme, programme_answer, reply_by, with_setting}
use Rattle.listener.specs.Programme.{started}

-- two grounds, asked before the rest: neither holds, or the call is refused by one
module _ (g h : Ground) (rest : List Ground) (a : Answer) (e : a ≡ answer_by (g ∷ h ∷ [])) where
  pub behind : a ≡ Ok tt → answer_by (g ∷ h ∷ rest) ≡ answer_by rest
  unfolding answer_by
  behind d = by g.holds h.holds (sym e ∙ d)
    where
      by : (b c : Bool) → ◌≡◌ {A = Answer} (cond b (Err g.refusal) (cond c (Err h.refusal) (Ok tt))) (Ok tt) → ◌≡◌ {A = Answer} (cond b (Err g.refusal) (cond c (Err h.refusal) (answer_by rest))) (answer_by rest)
      by true c f = absurd (true≢false (ap is_ok (sym f)))
      by false true f = absurd (true≢false (ap is_ok (sym f)))
      by false false f = refl

  pub stopped : (r : Refusal) → a ≡ Err r → answer_by (g ∷ h ∷ rest) ≡ Err r
  unfolding answer_by
  stopped r d = by g.holds h.holds (sym e ∙ d)
    where
      by : (b c : Bool) → ◌≡◌ {A = Answer} (cond b (Err g.refusal) (cond c (Err h.refusal) (Ok tt))) (Err r) → ◌≡◌ {A = Answer} (cond b (Err g.refusal) (cond c (Err h.refusal) (answer_by rest))) (Err r)
      by true c f = f
      by false true f = f
      by false false f = absurd (true≢false (ap is_ok f))

  -- the refusal that `?` hands on
  pub handed_on : {r : Refusal} {b : Answer} → a ≡ Err r → b ≡ Err r → b ≡ answer_by (g ∷ h ∷ rest)
  handed_on {r} d q = q ∙ sym (stopped r d)

-- one ground after the other
pub held : (g : Ground) (gs : List Ground) → g.holds ≡ true → answer_by (g ∷ gs) ≡ Err g.refusal
unfolding answer_by
held g gs e = rw e refl

pub passed : (g : Ground) (gs : List Ground) → g.holds ≡ false → answer_by (g ∷ gs) ≡ answer_by gs
unfolding answer_by
passed g gs e = rw e refl

pub none_left : answer_by [] ≡ Ok tt
unfolding answer_by
none_left = refl

-- a call that is done hands back another state, a refused one that which it was given
pub reply_when : (a b : Answer) (given made st : State) → a ≡ b → st ≡ cond (is_ok a) made given → ◌≡◌ {A = Reply} (record { answer = a; state = st }) (reply_by b given made)
unfolding reply_by
reply_when a b given made st q e = by a e ∙ ap (λ (x : Answer). reply_by x given made) q
  where
    by : (x : Answer) → st ≡ cond (is_ok x) made given → ◌≡◌ {A = Reply} (record { answer = x; state = st }) (reply_by x given made)
    by (Ok done) f = rw f refl
    by (Err r) f = rw f refl

-- a setting is stored, or there is none of that number
pub stored : (st : State) (o : ℕ) (x : Setting) → o < state_objects → ◌≡◌ {A = State} (record { programme = st.programme; objects = set st.objects o x }) (with_setting st o x)
unfolding with_setting
stored st o x l = rw (lt-ltb o state_objects l) refl

pub unstored : (st : State) (o : ℕ) (x : Setting) → state_objects ≤ o → st ≡ with_setting st o x
unfolding with_setting
unstored st o x l = rw (le-ltb o state_objects l) refl

-- a programme choice by its answer
pub programme_reply : (s : Sheet) (langs : List ℕ) (st : State) (p : ℕ) (a : Answer) → programme_answer s langs st p ≡ a → chosen_programme s langs st p ≡ reply_by a st (started s p)
unfolding chosen_programme
programme_reply s langs st p a e = ap (λ (x : Answer). reply_by x st (started s p)) e
