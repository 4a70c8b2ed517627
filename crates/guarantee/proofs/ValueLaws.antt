-- Gains and offsets of a sound state: legal, in the granted range, at their start value where none is granted. Assumes nothing.
use Prim.Native.Nat.{ℕ, ◌<◌, ◌≤◌}
use mathlib.Core.Path.{◌≡◌, refl, sym, ap, ◌∙◌}
use mathlib.Core.Bool.{true, false, true≢false, not, ◌&&◌}
use mathlib.Core.Logic.{◌⊎◌, inl, inr, ⊎_elim}
use native.Mathlib.Omega.{arith}
use lib.IntN.{pos}
use borrow.Author.Tests.{not-true}
use borrow.Table.Steps.{cases}
use Rattle.sheet.specs.Words.{Sheet}
use Rattle.sheet.specs.Layout.{count}
use Rattle.sheet.specs.Fields.{programmes, objects}
use Rattle.values.specs.declared.Gain.TheVariants.{Tenths}
use Rattle.values.specs.declared.Sort.{Sort}
use Rattle.values.specs.declared.Sort.TheVariants.{Gains, Offsets}
use Rattle.values.specs.Signed.{signed_of}
use Rattle.values.specs.Gain.{gain_of, gain_in_range, legal_gain}
use Rattle.values.specs.Offset.{offset_in_range, legal_offset}
use Rattle.values.specs.Values.{is_absent, is_value, in_range}
use Rattle.profile.specs.Relations.{includes}
use Rattle.profile.specs.AcceptedSheet.{AcceptedSheet}
use Rattle.profile.proofs.BoolLaws.{and_both, or_either}
use Rattle.listener.specs.declared.Setting.{Setting}
use Rattle.listener.specs.declared.State.{State}
use Rattle.granted.specs.Fitting.{same_gain, same_offset, gain_fits, offset_fits, sound_gain, sound_offset}
use Rattle.listener.specs.State.{state_objects, setting, is_resting}
use Rattle.granted.specs.Granted.{start_value, granted_minimum, granted_maximum, grants}
use Rattle.listener.specs.Programme.{start_setting}
use Rattle.listener.specs.Sound.{sound_at, sound}
use Rattle.guarantee.proofs.StartLaws.{start_legal, start_within, zero_within}
use Rattle.guarantee.proofs.SoundLaws.{same_gain_lem, same_offset_lem, included_parts, rest_parts, sound_programme, sound_object, start_included, start_rest}

-- "inactive, 0, 0"
pub resting_parts : (x : Setting) → is_resting x ≡ true → (x.active ≡ false) × (x.gain ≡ Tenths (pos 0)) × (x.offset ≡ pos 0)
unfolding is_resting
resting_parts x e =
    let both = and_both (not x.active && same_gain x.gain (Tenths (pos 0))) (same_offset x.offset (pos 0)) e in
    let first = and_both (not x.active) (same_gain x.gain (Tenths (pos 0))) both.0 in
    (not-true _ first.0, same_gain_lem x.gain (Tenths (pos 0)) first.1, same_offset_lem x.offset (pos 0) both.1)

module _ (s : Sheet) (a : AcceptedSheet s) (few : count s objects ≤ state_objects) (st : State) (h : sound s st ≡ true) (o : ℕ) (l : o < count s objects) where
  abbrev p : ℕ
  p = st.programme

  p_index : p < count s programmes
  p_index = sound_programme s st h

  here : sound_at s st o ≡ true
  here = sound_object s st h o (omega (arith, few))

  -- an object's gain: its start value, or legal in the granted range, or 0 where it is not included
  gain_cases : ((setting st o).gain ≡ (start_setting s p o).gain) ⊎ ((grants s p o Gains ≡ true) × (gain_fits s p o (setting st o).gain ≡ true))
  gain_cases =
      cases (includes s p o)
      (λ e.
      ⊎_elim
      (λ q. inl (same_gain_lem (setting st o).gain (gain_of (start_value s p o Gains)) q ∙ sym (ap (λ (x : Setting). x.gain) (start_included s p o e))))
      (λ q. inr (and_both (grants s p o Gains) (gain_fits s p o (setting st o).gain) q))
      (or_either (same_gain (setting st o).gain (gain_of (start_value s p o Gains))) (grants s p o Gains && gain_fits s p o (setting st o).gain) (unfold sound_gain in (included_parts s st o e here).1)))
      (λ e. inl ((resting_parts (setting st o) (rest_parts s st o e here)).1 ∙ sym (ap (λ (x : Setting). x.gain) (start_rest s p o e))))

  offset_cases : ((setting st o).offset ≡ (start_setting s p o).offset) ⊎ ((grants s p o Offsets ≡ true) × (offset_fits s p o (setting st o).offset ≡ true))
  offset_cases =
      cases (includes s p o)
      (λ e.
      ⊎_elim
      (λ q. inl (same_offset_lem (setting st o).offset (signed_of (start_value s p o Offsets)) q ∙ sym (ap (λ (x : Setting). x.offset) (start_included s p o e))))
      (λ q. inr (and_both (grants s p o Offsets) (offset_fits s p o (setting st o).offset) q))
      (or_either (same_offset (setting st o).offset (signed_of (start_value s p o Offsets))) (grants s p o Offsets && offset_fits s p o (setting st o).offset) (unfold sound_offset in (included_parts s st o e here).2)))
      (λ e. inl ((resting_parts (setting st o) (rest_parts s st o e here)).2 ∙ sym (ap (λ (x : Setting). x.offset) (start_rest s p o e))))

  -- the start setting itself, included or not
  start_gain_legal : legal_gain (start_setting s p o).gain ≡ true
  start_gain_legal =
      cases (includes s p o)
      (λ e. rw (start_included s p o e) (unfold is_value in start_legal s a p o Gains p_index l))
      (λ e. rw (start_rest s p o e) (unfold legal_gain in refl))

  start_offset_legal : legal_offset (start_setting s p o).offset ≡ true
  start_offset_legal =
      cases (includes s p o)
      (λ e. rw (start_included s p o e) (unfold is_value in start_legal s a p o Offsets p_index l))
      (λ e. rw (start_rest s p o e) (unfold legal_offset offset_in_range in refl))

  start_gain_within : is_absent (granted_minimum s p o Gains) ≡ false → gain_in_range (gain_of (granted_minimum s p o Gains)) (start_setting s p o).gain (gain_of (granted_maximum s p o Gains)) ≡ true
  start_gain_within g =
      cases (includes s p o)
      (λ e. rw (start_included s p o e) (unfold in_range in start_within s a p o Gains p_index l g))
      (λ e. rw (start_rest s p o e) (zero_gain (zero_within s a p o Gains p_index l g)))
    where
      zero_gain : in_range Gains (granted_minimum s p o Gains) 0 (granted_maximum s p o Gains) ≡ true → gain_in_range (gain_of (granted_minimum s p o Gains)) (Tenths (pos 0)) (gain_of (granted_maximum s p o Gains)) ≡ true
      zero_gain z = rw zero_is (unfold in_range in z)
        where
          zero_is : Tenths (pos 0) ≡ gain_of 0
          zero_is = unfold gain_of signed_of in refl

  start_offset_within : is_absent (granted_minimum s p o Offsets) ≡ false → offset_in_range (signed_of (granted_minimum s p o Offsets)) (start_setting s p o).offset (signed_of (granted_maximum s p o Offsets)) ≡ true
  start_offset_within g =
      cases (includes s p o)
      (λ e. rw (start_included s p o e) (unfold in_range in start_within s a p o Offsets p_index l g))
      (λ e. rw (start_rest s p o e) (zero_offset (zero_within s a p o Offsets p_index l g)))
    where
      zero_offset : in_range Offsets (granted_minimum s p o Offsets) 0 (granted_maximum s p o Offsets) ≡ true → offset_in_range (signed_of (granted_minimum s p o Offsets)) (pos 0) (signed_of (granted_maximum s p o Offsets)) ≡ true
      zero_offset z = rw zero_is (unfold in_range in z)
        where
          zero_is : pos 0 ≡ signed_of 0
          zero_is = unfold signed_of in refl

  present : (t : Sort) → grants s p o t ≡ true → is_absent (granted_minimum s p o t) ≡ false
  unfolding grants
  present t e = not-true _ e

  gain_parts : gain_fits s p o (setting st o).gain ≡ true
      → (legal_gain (setting st o).gain ≡ true) × (gain_in_range (gain_of (granted_minimum s p o Gains)) (setting st o).gain (gain_of (granted_maximum s p o Gains)) ≡ true)
  unfolding gain_fits
  gain_parts e = and_both (legal_gain (setting st o).gain) (gain_in_range (gain_of (granted_minimum s p o Gains)) (setting st o).gain (gain_of (granted_maximum s p o Gains))) e

  offset_parts : offset_fits s p o (setting st o).offset ≡ true
      → (legal_offset (setting st o).offset ≡ true) × (offset_in_range (signed_of (granted_minimum s p o Offsets)) (setting st o).offset (signed_of (granted_maximum s p o Offsets)) ≡ true)
  unfolding offset_fits
  offset_parts e = and_both (legal_offset (setting st o).offset) (offset_in_range (signed_of (granted_minimum s p o Offsets)) (setting st o).offset (signed_of (granted_maximum s p o Offsets))) e

  pub gain_legal : legal_gain (setting st o).gain ≡ true
  gain_legal = ⊎_elim (λ e. rw e start_gain_legal) (λ e. (gain_parts e.1).0) gain_cases

  pub offset_legal : legal_offset (setting st o).offset ≡ true
  offset_legal = ⊎_elim (λ e. rw e start_offset_legal) (λ e. (offset_parts e.1).0) offset_cases

  pub gain_in_range_lem : grants s p o Gains ≡ true → gain_in_range (gain_of (granted_minimum s p o Gains)) (setting st o).gain (gain_of (granted_maximum s p o Gains)) ≡ true
  gain_in_range_lem g = ⊎_elim (λ e. rw e (start_gain_within (present Gains g))) (λ e. (gain_parts e.1).1) gain_cases

  pub offset_in_range_lem : grants s p o Offsets ≡ true → offset_in_range (signed_of (granted_minimum s p o Offsets)) (setting st o).offset (signed_of (granted_maximum s p o Offsets)) ≡ true
  offset_in_range_lem g = ⊎_elim (λ e. rw e (start_offset_within (present Offsets g))) (λ e. (offset_parts e.1).1) offset_cases

  pub gain_at_start : grants s p o Gains ≡ false → (setting st o).gain ≡ (start_setting s p o).gain
  gain_at_start g = ⊎_elim (λ e. e) (λ e. absurd (true≢false (sym e.0 ∙ g))) gain_cases

  pub offset_at_start : grants s p o Offsets ≡ false → (setting st o).offset ≡ (start_setting s p o).offset
  offset_at_start g = ⊎_elim (λ e. e) (λ e. absurd (true≢false (sym e.0 ∙ g))) offset_cases
