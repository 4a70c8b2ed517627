-- A started state is sound, and the calls keep it so. Assumes nothing.
use Prim.Native.Nat.{ℕ, zero, suc, ◌<◌, ◌≤◌}
use mathlib.Core.Path.{◌≡◌, refl, sym, ap, ap₂, ◌∙◌}
use mathlib.Core.Bool.{Bool, true, false, cond, not, ◌&&◌}
use native.Mathlib.Omega.{arith}
use lib.Dec.{eqb, ltb}
use lib.IntN.{ℤ}
use lib.Signed.{le_z}
use lib.ListN.{length}
use lib.Seq.{get_or-set_same, get_or-set_other}
use borrow.Author.Tests.{ltb-true, lt-ltb, eqb-true, eqb-false, eq-eqb, ne_eqb}
use borrow.Table.Steps.{cases}
use Rattle.sheet.specs.Words.{Sheet}
use Rattle.sheet.specs.Layout.{count, number, entry}
use Rattle.sheet.specs.Fields.{programmes, objects, complement_list}
use Rattle.values.specs.declared.Gain.{Gain}
use Rattle.values.specs.declared.Sort.TheVariants.{Gains, Offsets}
use Rattle.values.specs.Signed.{signed_of}
use Rattle.values.specs.Gain.{gain_of, at_most}
use Rattle.values.proofs.Order.{le_z_refl, le_z_antisym, at_most_refl, at_most_antisym}
use Rattle.profile.specs.Counting.{how_many, every, tabulate}
use Rattle.profile.specs.Relations.{leader, member, members, leader_of, includes, wholly_included}
use Rattle.profile.specs.AcceptedSheet.{AcceptedSheet}
use Rattle.profile.proofs.BoolLaws.{and_both, or_true}
use Rattle.profile.proofs.ListLaws.{get_d_tabulate, every_at, every_all}
use Rattle.profile.proofs.SumLaws.{how_many_eq}
use Rattle.profile.proofs.GroupLaws.{member_zero, member_suc, member_of, member_leader, member_index, member_once, complement_leader, leader_index, included_top, whole_member}
use Rattle.listener.specs.declared.Setting.{Setting}
use Rattle.listener.specs.declared.State.{State}
use Rattle.granted.specs.Fitting.{same_gain, same_offset, sound_gain, sound_offset}
use Rattle.listener.specs.State.{state_objects, resting, blank, setting, active, is_resting}
use Rattle.granted.specs.Granted.{start_value, in_whole_group, starts_active}
use Rattle.listener.specs.Programme.{start_setting, started}
use Rattle.listener.specs.Sound.{active_members, sound_activity, sound_at, sound}
use Rattle.listener.specs.Calls.{moved_setting, with_setting}

-- the same gain, the same offset
pub same_gain_lem : (g h : Gain) → same_gain g h ≡ true → g ≡ h
unfolding same_gain
same_gain_lem g h e = let both = and_both (at_most g h) (at_most h g) e in at_most_antisym g h both.0 both.1

gain_itself : (g : Gain) → same_gain g g ≡ true
unfolding same_gain
gain_itself g = rw (at_most_refl g)

pub same_offset_lem : (x y : ℤ) → same_offset x y ≡ true → x ≡ y
unfolding same_offset
same_offset_lem x y e = let both = and_both (le_z x y) (le_z y x) e in le_z_antisym x y both.0 both.1

offset_itself : (x : ℤ) → same_offset x x ≡ true
unfolding same_offset
offset_itself x = rw (le_z_refl x)

-- the first of some and no other
how_many_first : (p : ℕ → Bool) (n : ℕ) → p 0 ≡ true → ((i : ℕ) → i < n → p (suc i) ≡ false) → how_many p (suc n) ≡ 1
unfolding how_many
how_many_first p zero e h = rw e
how_many_first p (suc n) e h = let last = h n (omega arith) in rw (how_many_first p n e (λ i l. h i (omega arith)), last)

-- a setting of a state that is made by its numbers
pub setting_tabulate : (p : ℕ) (f : ℕ → Setting) (o : ℕ) → o < state_objects → setting (record { programme = p; objects = tabulate f state_objects }) o ≡ f o
unfolding setting
setting_tabulate p f o l = rw (lt-ltb o state_objects l) (get_d_tabulate f state_objects o blank l)

-- an object of a sound state, in parts
module _ (s : Sheet) (st : State) (o : ℕ) where
  pub included_parts : includes s st.programme o ≡ true → sound_at s st o ≡ true
      → (sound_activity s st o ≡ true) × (sound_gain s st.programme o (setting st o).gain ≡ true) × (sound_offset s st.programme o (setting st o).offset ≡ true)
  unfolding sound_at
  included_parts e h =
      let both = and_both (sound_activity s st o && sound_gain s st.programme o (setting st o).gain) (sound_offset s st.programme o (setting st o).offset) (rw e at h) in
      let first = and_both (sound_activity s st o) (sound_gain s st.programme o (setting st o).gain) both.0 in
      (first.0, first.1, both.1)

  included_sound : includes s st.programme o ≡ true → sound_activity s st o ≡ true → sound_gain s st.programme o (setting st o).gain ≡ true
      → sound_offset s st.programme o (setting st o).offset ≡ true → sound_at s st o ≡ true
  unfolding sound_at
  included_sound e x y z = rw (e, x, y, z)

  pub rest_parts : includes s st.programme o ≡ false → sound_at s st o ≡ true → is_resting (setting st o) ≡ true
  unfolding sound_at
  rest_parts e h = rw e at h

  rest_sound : includes s st.programme o ≡ false → is_resting (setting st o) ≡ true → sound_at s st o ≡ true
  unfolding sound_at
  rest_sound e h = rw e h

module _ (s : Sheet) (st : State) where
  pub sound_programme : sound s st ≡ true → st.programme < count s programmes
  unfolding sound
  sound_programme e = ltb-true _ _ (and_both (ltb st.programme (count s programmes)) (every (sound_at s st) state_objects) e).0

  pub sound_object : sound s st ≡ true → (o : ℕ) → o < state_objects → sound_at s st o ≡ true
  unfolding sound
  sound_object e o l = every_at (sound_at s st) state_objects o (and_both (ltb st.programme (count s programmes)) (every (sound_at s st) state_objects) e).1 l

  all_sound : st.programme < count s programmes → ((o : ℕ) → o < state_objects → sound_at s st o ≡ true) → sound s st ≡ true
  unfolding sound
  all_sound l h = rw (lt-ltb _ _ l) (every_all (sound_at s st) state_objects h)

-- what a programme starts an object with
module _ (s : Sheet) where
  -- the group of an object in a wholly included group
  pub whole_parts : (p o : ℕ) → in_whole_group s p o ≡ true → (leader s (leader_of s o) ≡ true) × (wholly_included s p (leader_of s o) ≡ true)
  unfolding in_whole_group
  whole_parts p o e = and_both (leader s (leader_of s o)) (wholly_included s p (leader_of s o)) e

  start_at : (p o : ℕ) → o < state_objects → setting (started s p) o ≡ start_setting s p o
  unfolding started
  start_at p o l = setting_tabulate p (start_setting s p) o l

  pub start_included : (p o : ℕ) → includes s p o ≡ true
      → start_setting s p o ≡ record { active = starts_active s p o; gain = gain_of (start_value s p o Gains); offset = signed_of (start_value s p o Offsets) }
  unfolding start_setting
  start_included p o e = rw e

  pub start_rest : (p o : ℕ) → includes s p o ≡ false → start_setting s p o ≡ resting
  unfolding start_setting
  start_rest p o e = rw e

  start_active : (p o : ℕ) → o < state_objects → includes s p o ≡ true → active (started s p) o ≡ starts_active s p o
  unfolding active
  start_active p o l e = ap (λ (x : Setting). x.active) (start_at p o l ∙ start_included p o e)

  leader_starts : (p l : ℕ) → leader s l ≡ true → starts_active s p l ≡ true
  unfolding starts_active
  leader_starts p l h = rw h (or_true (not (in_whole_group s p l)))

  start_gain : (p o : ℕ) → sound_gain s p o (gain_of (start_value s p o Gains)) ≡ true
  unfolding sound_gain
  start_gain p o = rw (gain_itself (gain_of (start_value s p o Gains)))

  start_offset : (p o : ℕ) → sound_offset s p o (signed_of (start_value s p o Offsets)) ≡ true
  unfolding sound_offset
  start_offset p o = rw (offset_itself (signed_of (start_value s p o Offsets)))

module _ (s : Sheet) (a : AcceptedSheet s) (few : count s objects ≤ state_objects) where
  follower_waits : (p l i : ℕ) → l < count s objects → leader s l ≡ true → wholly_included s p l ≡ true → i < number s objects l complement_list
      → starts_active s p (entry s objects l complement_list i) ≡ false
  unfolding starts_active in_whole_group
  follower_waits p l i m h w k = rw (complement_leader s a l i m k, h, w, a.complement_follows l i m k)

  member_starts : (p l i : ℕ) → l < count s objects → wholly_included s p l ≡ true → i < members s l
      → active (started s p) (member s l i) ≡ starts_active s p (member s l i)
  member_starts p l i m w k = start_active s p (member s l i) (omega (arith, member_index s a l i m k, few)) (whole_member s a p l i w k)

  -- of a wholly included group the leader alone is active
  start_group : (p l : ℕ) → l < count s objects → leader s l ≡ true → wholly_included s p l ≡ true → active_members s (started s p) l ≡ 1
  unfolding active_members members
  start_group p l m h w =
      how_many_first (λ i. active (started s p) (member s l i)) (number s objects l complement_list)
      (member_starts p l 0 m w (omega arith) ∙ ap (starts_active s p) (member_zero s l) ∙ leader_starts s p l h)
      (λ i k. member_starts p l (suc i) m w (omega arith) ∙ ap (starts_active s p) (member_suc s l i) ∙ follower_waits p l i m h w k)

  start_activity : (p o : ℕ) → p < count s programmes → o < state_objects → includes s p o ≡ true → sound_activity s (started s p) o ≡ true
  unfolding sound_activity started
  start_activity p o l k e =
      cases (in_whole_group s p o)
      (λ w.
      let parts = whole_parts s p o w in
      rw w (eq-eqb (active_members s (started s p) (leader_of s o)) 1 (start_group p (leader_of s o) (leader_index s o (included_top s a p o l e).0) parts.0 parts.1)))
      (λ w. rw w (start_active s p o k e ∙ alone w))
    where
      alone : in_whole_group s p o ≡ false → starts_active s p o ≡ true
      alone w = unfold starts_active in rw w

  start_sound_at : (p o : ℕ) → p < count s programmes → o < state_objects → sound_at s (started s p) o ≡ true
  unfolding started
  start_sound_at p o l k =
      cases (includes s p o)
      (λ e.
      let x = start_at s p o k ∙ start_included s p o e in
      included_sound s (started s p) o e (start_activity p o l k e)
      (ap (λ (y : Setting). sound_gain s p o y.gain) x ∙ start_gain s p o)
      (ap (λ (y : Setting). sound_offset s p o y.offset) x ∙ start_offset s p o))
      (λ e. rest_sound s (started s p) o e (ap is_resting (start_at s p o k ∙ start_rest s p o e) ∙ rests))
    where
      rests : is_resting resting ≡ true
      rests = unfold is_resting same_gain same_offset at_most in refl

  -- a started programme is sound
  pub start_sound : (p : ℕ) → p < count s programmes → sound s (started s p) ≡ true
  start_sound p l = all_sound s (started s p) (unfold started in l) (λ o k. start_sound_at p o l k)

-- activity that is the same everywhere counts the same
members_same : (s : Sheet) (x y : State) (l : ℕ) → ((i : ℕ) → i < members s l → active x (member s l i) ≡ active y (member s l i)) → active_members s x l ≡ active_members s y l
unfolding active_members
members_same s x y l h = how_many_eq (λ i. active x (member s l i)) (λ i. active y (member s l i)) (members s l) h

activity_same : (s : Sheet) (x y : State) (o : ℕ) → x.programme ≡ y.programme → active_members s x (leader_of s o) ≡ active_members s y (leader_of s o) → active x o ≡ active y o
    → sound_activity s y o ≡ true → sound_activity s x o ≡ true
unfolding sound_activity
activity_same s x y o e m n h = by x.programme y.programme (active_members s x (leader_of s o)) (active_members s y (leader_of s o)) (active x o) (active y o) e m n h
  where
    by : (p q j k : ℕ) (b c : Bool) → p ≡ q → j ≡ k → b ≡ c → cond (in_whole_group s q o) (eqb k 1) c ≡ true → cond (in_whole_group s p o) (eqb j 1) b ≡ true
    by p q j k b c e f g i = rw (e, f, g) i

-- an object whose setting is as before, and whose activity is still sound, is still sound
kept : (s : Sheet) (x y : State) (o : ℕ) → x.programme ≡ y.programme → setting x o ≡ setting y o → (includes s y.programme o ≡ true → sound_activity s y o ≡ true → sound_activity s x o ≡ true) → sound_at s y o ≡ true → sound_at s x o ≡ true
kept s x y o e f g h =
    cases (includes s y.programme o)
    (λ i.
    let parts = included_parts s y o i h in
    included_sound s x o (ap (λ (p : ℕ). includes s p o) e ∙ i) (g i parts.0)
    (ap₂ (λ (p : ℕ) (w : Setting). sound_gain s p o w.gain) e f ∙ parts.1)
    (ap₂ (λ (p : ℕ) (w : Setting). sound_offset s p o w.offset) e f ∙ parts.2))
    (λ i. rest_sound s x o (ap (λ (p : ℕ). includes s p o) e ∙ i) (ap is_resting f ∙ rest_parts s y o i h))

-- storing a setting that is as active as the one before
module _ (s : Sheet) (st : State) (o : ℕ) (x : Setting) (long : length st.objects ≡ state_objects) (l : o < state_objects) (alike : x.active ≡ (setting st o).active) where
  abbrev next : State
  next = with_setting st o x

  stored_here : setting next o ≡ x
  unfolding setting with_setting
  stored_here = rw (lt-ltb o state_objects l) (get_or-set_same st.objects o x blank (rw long l))

  stored_other : (q : ℕ) → (q ≡ o → ⊥) → setting next q ≡ setting st q
  unfolding setting with_setting
  stored_other q h = rw (lt-ltb o state_objects l) (ap (λ (y : Setting). cond (ltb q state_objects) y blank) (get_or-set_other st.objects o q x blank h))

  stored_active : (q : ℕ) → active next q ≡ active st q
  unfolding active
  stored_active q =
      cases (eqb q o)
      (λ e. let z : q ≡ o = eqb-true q o e in rw z (ap (λ (y : Setting). y.active) stored_here ∙ alike))
      (λ e. ap (λ (y : Setting). y.active) (stored_other q (eqb-false q o e)))

  stored_activity : (q : ℕ) → sound_activity s st q ≡ true → sound_activity s next q ≡ true
  stored_activity q h = activity_same s next st q (unfold with_setting in refl) (members_same s next st (leader_of s q) (λ i m. stored_active (member s (leader_of s q) i))) (stored_active q) h

  stored_at : sound s st ≡ true → includes s st.programme o ≡ true → sound_gain s st.programme o x.gain ≡ true → sound_offset s st.programme o x.offset ≡ true
      → (q : ℕ) → q < state_objects → sound_at s next q ≡ true
  unfolding with_setting
  stored_at h e g z q k =
      cases (eqb q o)
      (λ f.
      let y : q ≡ o = eqb-true q o f in
      let parts = included_parts s st o e (sound_object s st h o l) in
      rw y (included_sound s next o e (stored_activity o parts.0)
      (ap (λ (w : Setting). sound_gain s st.programme o w.gain) stored_here ∙ g)
      (ap (λ (w : Setting). sound_offset s st.programme o w.offset) stored_here ∙ z)))
      (λ f. kept s next st q refl (stored_other q (eqb-false q o f)) (λ i y. stored_activity q y) (sound_object s st h q k))

  -- is sound where the new gain and offset are
  pub stored_sound : sound s st ≡ true → includes s st.programme o ≡ true → sound_gain s st.programme o x.gain ≡ true → sound_offset s st.programme o x.offset ≡ true
      → sound s next ≡ true
  stored_sound h e g z = all_sound s next (unfold with_setting in sound_programme s st h) (λ q k. stored_at h e g z q k)

-- an object without a leader is in no wholly included group: its own activity is what matters
lone_parts : (s : Sheet) (x : State) (o : ℕ) → leader s (leader_of s o) ≡ false → sound_activity s x o ≡ active x o
unfolding sound_activity in_whole_group
lone_parts s x o e = rw e

-- choosing an object of a wholly included group
module _ (s : Sheet) (a : AcceptedSheet s) (few : count s objects ≤ state_objects) (st : State) (o : ℕ) (h : sound s st ≡ true) (e : includes s st.programme o ≡ true)
    (w : in_whole_group s st.programme o ≡ true) where
  abbrev moved : State
  moved = record { programme = st.programme; objects = tabulate (moved_setting s st o) state_objects }

  abbrev l : ℕ
  l = leader_of s o

  o_index : o < count s objects
  o_index = (included_top s a st.programme o (sound_programme s st h) e).0

  l_index : l < count s objects
  l_index = leader_index s o o_index

  l_leader : leader s l ≡ true
  l_leader = (whole_parts s st.programme o w).0

  l_whole : wholly_included s st.programme l ≡ true
  l_whole = (whole_parts s st.programme o w).1

  -- in the group the object alone is active; elsewhere nothing moves
  moved_here : (q : ℕ) → q < state_objects → leader_of s q ≡ l → setting moved q ≡ record { active = eqb q o; gain = (setting st q).gain; offset = (setting st q).offset }
  unfolding moved_setting
  moved_here q k f = setting_tabulate st.programme (moved_setting s st o) q k ∙ rw (eq-eqb (leader_of s q) l f)

  moved_other : (q : ℕ) → q < state_objects → (leader_of s q ≡ l → ⊥) → setting moved q ≡ setting st q
  unfolding moved_setting
  moved_other q k f = setting_tabulate st.programme (moved_setting s st o) q k ∙ rw (ne_eqb (leader_of s q) l f)

  -- the object is once among the members
  once_a_member : how_many (λ i. eqb (member s l i) o) (members s l) ≡ 1
  once_a_member = member_once s a o o_index l_leader

  moved_active : (q : ℕ) → q < state_objects → leader_of s q ≡ l → active moved q ≡ eqb q o
  unfolding active
  moved_active q k f = ap (λ (x : Setting). x.active) (moved_here q k f)

  member_small : (g i : ℕ) → g < count s objects → i < members s g → member s g i < state_objects
  member_small g i m k = omega (arith, member_index s a g i m k, few)

  moved_group : active_members s moved l ≡ 1
  unfolding active_members
  moved_group =
      how_many_eq (λ i. active moved (member s l i)) (λ i. eqb (member s l i) o) (members s l)
      (λ i k. moved_active (member s l i) (member_small l i l_index k) (member_leader s a l i l_index l_leader k))
      ∙ once_a_member

  -- another group is as active as before
  other_group : (g : ℕ) → g < count s objects → leader s g ≡ true → (g ≡ l → ⊥) → active_members s moved g ≡ active_members s st g
  other_group g m k f =
      members_same s moved st g
      (λ i n. unfold active in ap (λ (x : Setting). x.active) (moved_other (member s g i) (member_small g i m n) (λ q. f (sym (member_leader s a g i m k n) ∙ q))))

  other_activity : (q : ℕ) → q < state_objects → includes s st.programme q ≡ true → (leader_of s q ≡ l → ⊥) → sound_activity s st q ≡ true → sound_activity s moved q ≡ true
  other_activity q k i f x =
      let q_index = (included_top s a st.programme q (sound_programme s st h) i).0 in
      cases (leader s (leader_of s q))
      (λ y. activity_same s moved st q refl (other_group (leader_of s q) (leader_index s q q_index) y f) (unfold active in ap (λ (z : Setting). z.active) (moved_other q k f)) x)
      (λ y. lone_parts s moved q y ∙ unfold active in ap (λ (z : Setting). z.active) (moved_other q k f) ∙ sym (lone_parts s st q y) ∙ x)

  group_included : (q : ℕ) → leader_of s q ≡ l → includes s st.programme q ≡ true
  group_included q f =
      let m = member_of s q (rw f l_leader) in
      rw (sym m.2) (whole_member s a st.programme (leader_of s q) m.0 (rw f l_whole) m.1)

  group_activity : (q : ℕ) → leader_of s q ≡ l → sound_activity s moved q ≡ true
  unfolding sound_activity in_whole_group
  group_activity q f = rw (f, l_leader, l_whole) (eq-eqb (active_members s moved l) 1 moved_group)

  moved_at : (q : ℕ) → q < state_objects → sound_at s moved q ≡ true
  moved_at q k =
      cases (eqb (leader_of s q) l)
      (λ x.
      let f : leader_of s q ≡ l = eqb-true (leader_of s q) l x in
      let i = group_included q f in
      let parts = included_parts s st q i (sound_object s st h q k) in
      included_sound s moved q i (group_activity q f)
      (ap (λ (y : Setting). sound_gain s st.programme q y.gain) (moved_here q k f) ∙ parts.1)
      (ap (λ (y : Setting). sound_offset s st.programme q y.offset) (moved_here q k f) ∙ parts.2))
      (λ x.
      let f = eqb-false (leader_of s q) l x in
      kept s moved st q refl (moved_other q k f) (λ i y. other_activity q k i f y) (sound_object s st h q k))

  -- leaves the state sound
  pub moved_sound : sound s moved ≡ true
  moved_sound = all_sound s moved (sound_programme s st h) moved_at
