-- After every list of calls the state is sound, and its programme is that of the last choice not refused. Assumes nothing.
use Prim.Native.Nat.{ℕ, ◌<◌, ◌≤◌}
use mathlib.Core.Path.{◌≡◌, refl, sym, ◌∙◌}
use mathlib.Core.Bool.{Bool, true, false}
use mathlib.Core.List.{List, [], ◌∷◌}
use native.Mathlib.Omega.{arith}
use lib.IntN.{ℤ}
use lib.ListN.{length, length-set}
use borrow.Author.Tests.{leb-false, not-false, lt-ltb}
use borrow.Table.Steps.{cases}
use Rattle.std.specs.Prelude.{Ok, Err}
use Rattle.sheet.specs.Words.{Sheet}
use Rattle.sheet.specs.Layout.{count}
use Rattle.sheet.specs.Fields.{programmes, objects}
use Rattle.values.specs.declared.Gain.{Gain}
use Rattle.values.specs.declared.Sort.{Sort}
use Rattle.values.specs.declared.Sort.TheVariants.{Gains, Offsets}
use Rattle.values.specs.Signed.{signed_of}
use Rattle.values.specs.Gain.{gain_of}
use Rattle.profile.specs.Relations.{includes}
use Rattle.profile.specs.AcceptedSheet.{AcceptedSheet}
use Rattle.profile.proofs.BoolLaws.{or_true}
use Rattle.profile.proofs.ListLaws.{length_tabulate}
use Rattle.profile.proofs.GroupLaws.{included_top}
use Rattle.listener.specs.declared.Setting.{Setting}
use Rattle.listener.specs.declared.State.{State}
use Rattle.listener.specs.declared.Refusal.{Refusal}
use Rattle.granted.specs.Fitting.{same_gain, same_offset, gain_fits, offset_fits, sound_gain, sound_offset}
use Rattle.listener.specs.State.{state_objects, setting, refusal_number}
use Rattle.granted.specs.Granted.{start_value, grants, in_whole_group}
use Rattle.listener.specs.Programme.{start_setting, started}
use Rattle.listener.specs.Sound.{sound}
use Rattle.listener.specs.Calls.{Answer, Ground, answer_by, reply_by, opens, not_open, not_sound, not_included, no_programme, not_in_group, no_range, outside_range, opened, programme_answer, chosen_programme, object_answer, moved_setting, moved, chosen_object, value_answer, with_setting, with_gain, with_offset, gain_set, offset_set}
use Rattle.guarantee.specs.Run.{Call, programme, object, gain, offset, reply, run, after, chosen_by, chosen, last_chosen}
use Rattle.guarantee.proofs.SoundLaws.{start_sound, sound_programme, sound_object, included_parts, stored_sound, moved_sound}

-- an answer is done where no ground holds
pub done_ground : (g : Ground) (gs : List Ground) → answer_by (g ∷ gs) ≡ Ok tt → (g.holds ≡ false) × (answer_by gs ≡ Ok tt)
unfolding answer_by
done_ground g gs e =
    cases g.holds
    (λ h. let z : ◌≡◌ {A = Answer} (Err g.refusal) (Ok tt) = rw h at e in let y : ◌≡◌ {A = ℕ} 0 1 = cc in absurd (omega arith))
    (λ h. (h, rw h at e))

-- grounds that come behind 25 and 26
abbrev Later : List Ground → Type 0
Later [] = Unit {0}
Later (g ∷ gs) = (27 ≤ refusal_number g.refusal) × Later gs

later_answer : (gs : List Ground) → Later gs → (r : Refusal) → answer_by gs ≡ Err r → 27 ≤ refusal_number r
unfolding answer_by
later_answer [] later r e = let y : ◌≡◌ {A = ℕ} 0 1 = cc in absurd (omega arith)
later_answer (g ∷ gs) later r e =
    cases g.holds
    (λ h. let z : ◌≡◌ {A = Answer} (Err g.refusal) (Err r) = rw h at e in let q : g.refusal ≡ r = cc in rw (sym q) later.0)
    (λ h. later_answer gs later.1 r (rw h at e))

-- what holds of the given state, and of the one made if the call is done, holds of the one handed back
handed_back : (P : State → Type 0) (answer : Answer) (given made : State) → P given → (answer ≡ Ok tt → P made) → P (reply_by answer given made).state
unfolding reply_by
handed_back P (Ok done) given made g m = m refl
handed_back P (Err r) given made g m = g

reply_answer : (answer : Answer) (given made : State) → (reply_by answer given made).answer ≡ answer
unfolding reply_by
reply_answer (Ok done) given made = refl
reply_answer (Err r) given made = refl

-- what every call keeps, at a programme
pub record Kept (s : Sheet) (st : State) (p : ℕ) : Type 0 where
  pub long : length st.objects ≡ state_objects
  pub at : st.programme ≡ p
  pub good : sound s st ≡ true

module _ (s : Sheet) (langs : List ℕ) (a : AcceptedSheet s) (few : count s objects ≤ state_objects) (can_open : opens s langs ≡ true) where
  -- on a sound state 25 and 26 do not come
  pub passes : (st : State) (gs : List Ground) → sound s st ≡ true → answer_by (not_open s langs ∷ not_sound s st ∷ gs) ≡ answer_by gs
  unfolding answer_by not_open not_sound
  passes st gs h = rw (can_open, h)

  pub never : (st : State) (gs : List Ground) → sound s st ≡ true → Later gs → (r : Refusal) → refusal_number r ≤ 26 → answer_by (not_open s langs ∷ not_sound s st ∷ gs) ≡ Err r → ⊥
  never st gs h later r few e = let l = later_answer gs later r (sym (passes st gs h) ∙ e) in omega arith

  start_kept : (p : ℕ) → p < count s programmes → Kept s (started s p) p
  unfolding started
  start_kept p l = record { long = length_tabulate (start_setting s p) state_objects; at = refl; good = start_sound s a few p l }

  pub opened_kept : Kept s (opened s langs).state 0
  unfolding opened answer_by not_open
  opened_kept = rw can_open (unfold reply_by in start_kept 0 (omega (arith, a.some_programme)))

  -- the grounds of a call that is done have all been passed
  passed : (st : State) (gs : List Ground) → sound s st ≡ true → answer_by (not_open s langs ∷ not_sound s st ∷ gs) ≡ Ok tt → answer_by gs ≡ Ok tt
  passed st gs h e = sym (passes st gs h) ∙ e

  programme_done : (st : State) (q : ℕ) → sound s st ≡ true → programme_answer s langs st q ≡ Ok tt → q < count s programmes
  unfolding programme_answer no_programme
  programme_done st q h e = leb-false _ _ (done_ground (no_programme s q) [] (passed st (no_programme s q ∷ []) h e)).0

  object_done : (st : State) (o : ℕ) → sound s st ≡ true → object_answer s langs st o ≡ Ok tt → (includes s st.programme o ≡ true) × (in_whole_group s st.programme o ≡ true)
  unfolding object_answer not_included not_in_group
  object_done st o h e =
      let f = done_ground (not_included s st o) (not_in_group s st o ∷ []) (passed st (not_included s st o ∷ not_in_group s st o ∷ []) h e) in
      (not-false _ f.0, not-false _ (done_ground (not_in_group s st o) [] f.1).0)

  value_done : (st : State) (o : ℕ) (t : Sort) (fits : Bool) → sound s st ≡ true → value_answer s langs st o t fits ≡ Ok tt
      → (includes s st.programme o ≡ true) × (grants s st.programme o t ≡ true) × (fits ≡ true)
  unfolding value_answer not_included no_range outside_range
  value_done st o t fits h e =
      let f = done_ground (not_included s st o) (no_range s st o t ∷ outside_range fits ∷ []) (passed st (not_included s st o ∷ no_range s st o t ∷ outside_range fits ∷ []) h e) in
      let g = done_ground (no_range s st o t) (outside_range fits ∷ []) f.1 in
      (not-false _ f.0, not-false _ g.0, not-false _ (done_ground (outside_range fits) [] g.1).0)

  programme_kept : (st : State) (p q : ℕ) → Kept s st p → Kept s (chosen_programme s langs st q).state (chosen_by (programme_answer s langs st q) q p)
  unfolding chosen_programme reply_by
  programme_kept st p q k = by (programme_answer s langs st q) refl
    where
      by : (answer : Answer) → programme_answer s langs st q ≡ answer → Kept s (reply_by answer st (started s q)).state (chosen_by answer q p)
      by (Ok done) e = start_kept q (programme_done st q k.good e)
      by (Err r) e = k

  object_kept : (st : State) (p o : ℕ) → Kept s st p → Kept s (chosen_object s langs st o).state p
  unfolding chosen_object moved
  object_kept st p o k =
      handed_back (λ x. Kept s x p) (object_answer s langs st o) st (moved s st o) k
      (λ e.
      let d = object_done st o k.good e in
      record { long = length_tabulate (moved_setting s st o) state_objects; at = k.at; good = moved_sound s a few st o k.good d.0 d.1 })

  -- a stored setting that is as active as before, with a sound gain and offset
  stored_kept : (st : State) (p o : ℕ) (x : Setting) → Kept s st p → includes s st.programme o ≡ true → x.active ≡ (setting st o).active
      → sound_gain s st.programme o x.gain ≡ true → sound_offset s st.programme o x.offset ≡ true → Kept s (with_setting st o x) p
  unfolding with_setting
  stored_kept st p o x k i e g z =
      let l : o < state_objects = omega (arith, (included_top s a st.programme o (sound_programme s st k.good) i).0, few) in
      record { long = rw (lt-ltb o state_objects l) (length-set st.objects o x) ∙ k.long; at = k.at; good = stored_sound s st o x k.long l e k.good i g z }

  old_parts : (st : State) (p o : ℕ) → Kept s st p → includes s st.programme o ≡ true
      → (sound_gain s st.programme o (setting st o).gain ≡ true) × (sound_offset s st.programme o (setting st o).offset ≡ true)
  old_parts st p o k i =
      let l : o < state_objects = omega (arith, (included_top s a st.programme o (sound_programme s st k.good) i).0, few) in
      let parts = included_parts s st o i (sound_object s st k.good o l) in
      (parts.1, parts.2)

  fits_gain : (p o : ℕ) (g : Gain) → grants s p o Gains ≡ true → gain_fits s p o g ≡ true → sound_gain s p o g ≡ true
  unfolding sound_gain
  fits_gain p o g e f = rw (e, f) (or_true (same_gain g (gain_of (start_value s p o Gains))))

  fits_offset : (p o : ℕ) (z : ℤ) → grants s p o Offsets ≡ true → offset_fits s p o z ≡ true → sound_offset s p o z ≡ true
  unfolding sound_offset
  fits_offset p o z e f = rw (e, f) (or_true (same_offset z (signed_of (start_value s p o Offsets))))

  gain_kept : (st : State) (p o : ℕ) (g : Gain) → Kept s st p → Kept s (gain_set s langs st o g).state p
  unfolding gain_set with_gain
  gain_kept st p o g k =
      handed_back (λ x. Kept s x p) (value_answer s langs st o Gains (gain_fits s st.programme o g)) st
      (with_gain st o g) k
      (λ e.
      let d = value_done st o Gains (gain_fits s st.programme o g) k.good e in
      stored_kept st p o (record { active = (setting st o).active; gain = g; offset = (setting st o).offset }) k d.0 refl
      (fits_gain st.programme o g d.1 d.2) (old_parts st p o k d.0).1)

  offset_kept : (st : State) (p o : ℕ) (z : ℤ) → Kept s st p → Kept s (offset_set s langs st o z).state p
  unfolding offset_set with_offset
  offset_kept st p o z k =
      handed_back (λ x. Kept s x p) (value_answer s langs st o Offsets (offset_fits s st.programme o z)) st
      (with_offset st o z) k
      (λ e.
      let d = value_done st o Offsets (offset_fits s st.programme o z) k.good e in
      stored_kept st p o (record { active = (setting st o).active; gain = (setting st o).gain; offset = z }) k d.0 refl
      (old_parts st p o k d.0).0 (fits_offset st.programme o z d.1 d.2))

  pub run_kept : (cs : List Call) (st : State) (p : ℕ) → Kept s st p → Kept s (run s langs st cs) (chosen s langs st p cs)
  unfolding run chosen reply
  run_kept [] st p k = k
  run_kept (programme q ∷ cs) st p k = run_kept cs (chosen_programme s langs st q).state (chosen_by (programme_answer s langs st q) q p) (programme_kept st p q k)
  run_kept (object o ∷ cs) st p k = run_kept cs (chosen_object s langs st o).state p (object_kept st p o k)
  run_kept (gain o g ∷ cs) st p k = run_kept cs (gain_set s langs st o g).state p (gain_kept st p o g k)
  run_kept (offset o z ∷ cs) st p k = run_kept cs (offset_set s langs st o z).state p (offset_kept st p o z k)

  -- after every list of calls from a fresh opening
  pub after_kept : (cs : List Call) → Kept s (after s langs cs) (last_chosen s langs cs)
  unfolding after last_chosen
  after_kept cs = run_kept cs (opened s langs).state 0 opened_kept

  -- no call is refused by 25 or 26
  pub never_refused : (st : State) → sound s st ≡ true → (c : Call) (r : Refusal) → refusal_number r ≤ 26 → (reply s langs st c).answer ≡ Err r → ⊥
  unfolding reply chosen_programme chosen_object gain_set offset_set programme_answer object_answer value_answer no_programme not_included not_in_group no_range outside_range
  never_refused st h (programme q) r few e = never st (no_programme s q ∷ []) h (omega arith, tt) r few (sym (reply_answer (programme_answer s langs st q) st (started s q)) ∙ e)
  never_refused st h (object o) r few e = never st (not_included s st o ∷ not_in_group s st o ∷ []) h (omega arith, (omega arith, tt)) r few (sym (reply_answer (object_answer s langs st o) st _) ∙ e)
  never_refused st h (gain o g) r few e = never st (not_included s st o ∷ no_range s st o Gains ∷ outside_range (gain_fits s st.programme o g) ∷ []) h (omega arith, (omega arith, (omega arith, tt))) r few (sym (reply_answer (value_answer s langs st o Gains (gain_fits s st.programme o g)) st _) ∙ e)
  never_refused st h (offset o z) r few e = never st (not_included s st o ∷ no_range s st o Offsets ∷ outside_range (offset_fits s st.programme o z) ∷ []) h (omega arith, (omega arith, (omega arith, tt))) r few (sym (reply_answer (value_answer s langs st o Offsets (offset_fits s st.programme o z)) st _) ∙ e)
