-- Rule 18: the two figures of a sheet that it refuses are words of the sheet, a value and a bound that it is beyond. Assumes nothing.
use Prim.Native.Nat.{ℕ, ◌-◌, ◌<◌, ◌≤◌}
use mathlib.Core.Path.{◌≡◌, refl, sym, ap, ◌∙◌}
use mathlib.Core.Bool.{Bool, true, false, true≢false, cond, not, ◌&&◌, ◌||◌}
use mathlib.Core.List.{List, [], ◌∷◌}
use mathlib.Core.Logic.{◌⊎◌, inl, inr, ⊎_elim}
use native.Mathlib.Omega.{arith}
use lib.Dec.{eqb, ltb}
use lib.IntN.{pos, negsuc}
use borrow.Author.Tests.{eqb-true, eqb-false, ne_eqb, eq-eqb, ltb-true, ltb-false, not-true, not-false}
use Rattle.std.specs.Prelude.{Some, is_some, IfSome}
use Rattle.sheet.specs.Words.{Sheet}
use Rattle.sheet.specs.Layout.{count, field}
use Rattle.sheet.specs.Fields.{objects, value_sets, set_own}
use Rattle.values.specs.declared.Sort.{Sort}
use Rattle.values.specs.declared.Sort.TheVariants.{Gains, Offsets}
use Rattle.values.specs.Signed.{signed_of}
use Rattle.values.specs.Gain.{gain_of, gain_in_range, legal_gain_maximum}
use Rattle.values.specs.Offset.{offset_in_range, legal_offset_maximum}
use Rattle.values.specs.Values.{is_absent, or_else, in_range, is_maximum}
use Rattle.values.proofs.Zero.{zero_in_range}
use Rattle.profile.specs.declared.Place.{Place}
use Rattle.profile.specs.declared.Place.TheVariants.{Object, ValueSet}
use Rattle.profile.specs.declared.Verdict.TheVariants.{Broken}
use Rattle.profile.specs.Relations.{owner, object_value, object_minimum, object_maximum, set_value, set_minimum, set_maximum, own_value, effective_value, effective_minimum, effective_maximum}
use Rattle.profile.specs.Rules.{rule18, leaves, object_leaves, set_leaves}
use Rattle.profile.specs.Verdict.{section_of, record_of, verdict, breaks, subjects, subject_kind}
use Rattle.profile.specs.FirstBroken.{BrokenAt}
use Rattle.profile.specs.AcceptedSheet.{LegalRange}
use Rattle.profile.proofs.BoolLaws.{or_false, or_either, and_both, and_second}
use Rattle.profile.proofs.VerdictLaws.{broken_first}
use Rattle.figures.specs.declared.Figure.{Figure}
use Rattle.figures.specs.declared.FigureNumber.TheVariants.{Word}
use Rattle.figures.specs.declared.WordPlace.{WordPlace}
use Rattle.figures.specs.declared.Clash.{Clash}
use Rattle.figures.specs.Clashes.{in_object, in_set, word_at, told, printed}
use Rattle.figures.specs.Ranges.{ordered, below_minimum, bound_place, range_clash, object_clash, effective_place, range_place, effective_clash, own_clash, object_clashes, set_clashes, range_clashes}
use Rattle.figures.specs.Figures.{figures_of, figures}
use Rattle.figures.specs.Promises.{Stands, is_silence, printed_gain, AtMost, value_at, minimum_at, maximum_at, IsThere, OfObject, SetValue, SetBound, BreakAt, RangeLeft}
use Rattle.figures.proofs.FoundLaws.{clash_found, first_found, second_found, earlier_keeps, clash_keeps, where_found, Found, found, if_some, told_figures, broken_figures}
use Rattle.figures.proofs.KeptLaws.{object_range_lem, set_range_lem, owner_index, six_eighteen, eleven_eighteen}

-- the number that a word is printed as is silence where the word is
silence : (w : ℕ) → is_silence (signed_of w) ≡ eqb w 32768
unfolding signed_of
silence w =
    (elim (ltb w 32768) as (λ t. ltb w 32768 ≡ t → is_silence (cond t (pos w) (negsuc (65535 - w))) ≡ eqb w 32768) [
      | true ↦ λ e. sym (ne_eqb w 32768 (λ q. omega (arith, ltb-true w 32768 e)))
      | false ↦ λ e. high (ltb-false w 32768 e)
    ]) refl
  where
    high : 32768 ≤ w → eqb (65535 - w) 32767 ≡ eqb w 32768
    high l =
        (elim (eqb w 32768) as (λ t. eqb w 32768 ≡ t → eqb (65535 - w) 32767 ≡ t) [
          | true ↦ λ e. eq-eqb (65535 - w) 32767 (omega (arith, eqb-true w 32768 e))
          | false ↦ λ e. ne_eqb (65535 - w) 32767 (λ q. eqb-false w 32768 e (omega arith))
        ]) refl

printed_gain_lem : (w : ℕ) → printed_gain (signed_of w) ≡ gain_of w
unfolding gain_of
printed_gain_lem w = rw (silence w)

-- the order of printed numbers is that of words
at_most_lem : (t : Sort) (w x : ℕ) → AtMost t (signed_of w) (signed_of x) → ordered t w x ≡ true
unfolding ordered
at_most_lem Gains w x h = rw (printed_gain_lem w, printed_gain_lem x) at h
at_most_lem Offsets w x h = h

-- a value that leaves its range is below the minimum or above the maximum
splits : (t : Sort) (lo w hi : ℕ) → in_range t lo w hi ≡ (ordered t lo w && ordered t w hi)
unfolding ordered in_range gain_in_range offset_in_range
splits Gains lo w hi = refl
splits Offsets lo w hi = refl

below_minimum_lem : (t : Sort) (lo w : ℕ) → below_minimum t w lo ≡ true → AtMost t (signed_of lo) (signed_of w) → ⊥
unfolding below_minimum
below_minimum_lem t lo w e h = true≢false (sym (at_most_lem t lo w h) ∙ not-true _ e)

above_maximum : (t : Sort) (lo w hi : ℕ) → leaves t w lo hi ≡ true → below_minimum t w lo ≡ false → AtMost t (signed_of w) (signed_of hi) → ⊥
unfolding below_minimum leaves
above_maximum t lo w hi e f h =
    let out : in_range t lo w hi ≡ false = not-true _ (and_both (not (is_absent lo)) (not (in_range t lo w hi)) e).1 in
    true≢false (sym (at_most_lem t w hi h) ∙ and_second (ordered t lo w) (ordered t w hi) (sym (splits t lo w hi) ∙ out) (not-false _ f))

-- Where a word of an object or a value set stands, at the position that `at` gives for the sort
record Bears (s : Sheet) (t : Sort) (at : ℕ → Sort → ℕ) (p : WordPlace) : Type 0 where
  inside : p.index < count s p.section
  place : p.at ≡ at p.section t

bears_stands : (s : Sheet) (t : Sort) (at : ℕ → Sort → ℕ) (p : WordPlace) → Bears s t at p → Stands s (told s p) (at p.section t)
bears_stands s t at p b = record { inside = b.inside; word = ap (λ (a : ℕ). Word (field s p.section p.index a)) b.place }

-- one of two such places
bears_cond : (s : Sheet) (t : Sort) (at : ℕ → Sort → ℕ) (b : Bool) (p q : WordPlace) → Bears s t at p → Bears s t at q → Bears s t at (cond b p q)
bears_cond s t at true p q x y = x
bears_cond s t at false p q x y = y

word_cond : (s : Sheet) (b : Bool) (p q : WordPlace) → word_at s (cond b p q) ≡ cond b (word_at s p) (word_at s q)
word_cond s true p q = refl
word_cond s false p q = refl

-- a word that is not absent is there
is_there : (s : Sheet) (p : WordPlace) → is_absent (word_at s p) ≡ false → IsThere (told s p)
unfolding is_absent
is_there s p e h = let same : word_at s p ≡ 32767 = cc in eqb-false (word_at s p) 32767 e same

-- so is a legal maximum
maximum_absent : (t : Sort) → is_maximum t 32767 ≡ false
unfolding is_maximum legal_gain_maximum legal_offset_maximum offset_in_range gain_of signed_of
maximum_absent Gains = refl
maximum_absent Offsets = refl

maximum_there : (t : Sort) (w : ℕ) → is_maximum t w ≡ true → is_absent w ≡ false
unfolding is_absent
maximum_there t w e = ne_eqb w 32767 (λ q. true≢false (sym e ∙ ap (is_maximum t) q ∙ maximum_absent t))

-- What the two figures of a clash are held to; P says whose they are
record Beyond (s : Sheet) (P : Sort → Figure → Figure → Type 0) (x : Clash) : Type 0 where
  sort : Sort
  place : P sort x.first x.second
  value_stands : Stands s x.first (value_at x.first.section sort)
  value_there : IsThere x.first
  bound_there : IsThere x.second
  outside : (Stands s x.second (minimum_at x.second.section sort) × (AtMost sort (printed x.second.number) (printed x.first.number) → ⊥))
      ⊎ (Stands s x.second (maximum_at x.second.section sort) × (AtMost sort (printed x.first.number) (printed x.second.number) → ⊥))

module _ (s : Sheet) (t : Sort) (v lo hi : WordPlace) where
  range_found : is_absent (word_at s v) ≡ false → leaves t (word_at s v) (word_at s lo) (word_at s hi) ≡ true → is_some (range_clash s t v lo hi) ≡ true
  unfolding range_clash
  range_found e f = clash_found _ _ _ ∙ rw (e, f) refl

  -- a clash has a value that is there
  clash_there : is_some (range_clash s t v lo hi) ≡ true → is_absent (word_at s v) ≡ false
  unfolding range_clash
  clash_there e = not-true _ (and_both (not (is_absent (word_at s v))) (leaves t (word_at s v) (word_at s lo) (word_at s hi)) (sym (clash_found _ _ _) ∙ e)).0

  range_beyond : (P : Sort → Figure → Figure → Type 0) → P t (told s v) (told s lo) → P t (told s v) (told s hi)
      → Bears s t value_at v → Bears s t minimum_at lo → Bears s t maximum_at hi → LegalRange t (word_at s lo) (word_at s hi)
      → IfSome (range_clash s t v lo hi) (Beyond s P)
  unfolding range_clash bound_place leaves
  range_beyond P p q a b c r =
      clash_keeps (Beyond s P) _ _ _ (λ e.
      let out : leaves t (word_at s v) (word_at s lo) (word_at s hi) ≡ true = (and_both (not (is_absent (word_at s v))) (leaves t (word_at s v) (word_at s lo) (word_at s hi)) e).1 in
      let there : is_absent (word_at s lo) ≡ false = not-true _ (and_both (not (is_absent (word_at s lo))) (not (in_range t (word_at s lo) (word_at s v) (word_at s hi))) out).0 in
      (elim (below_minimum t (word_at s v) (word_at s lo)) as (λ x. below_minimum t (word_at s v) (word_at s lo) ≡ x → Beyond s P (record { first = told s v; second = told s (cond x lo hi) })) [
        | true ↦ λ f.
            record {
              sort = t;
              place = p;
              value_stands = bears_stands s t value_at v a;
              value_there = is_there s v (clash_there (clash_found _ _ _ ∙ e));
              bound_there = is_there s lo there;
              outside = inl (bears_stands s t minimum_at lo b, below_minimum_lem t (word_at s lo) (word_at s v) f);
            }
        | false ↦ λ f.
            record {
              sort = t;
              place = q;
              value_stands = bears_stands s t value_at v a;
              value_there = is_there s v (clash_there (clash_found _ _ _ ∙ e));
              bound_there = is_there s hi (maximum_there t (word_at s hi) (r there).1);
              outside = inr (bears_stands s t maximum_at hi c, above_maximum t (word_at s lo) (word_at s v) (word_at s hi) out f);
            }
      ]) refl)

-- 0 leaves no legal range
zero_stays : (t : Sort) (lo hi : ℕ) → LegalRange t lo hi → leaves t 0 lo hi ≡ true → ⊥
unfolding leaves
zero_stays t lo hi r e =
    let both = and_both (not (is_absent lo)) (not (in_range t lo 0 hi)) e in
    let legal = r (not-true _ both.0) in
    true≢false (sym (zero_in_range t lo hi legal.0 legal.1) ∙ not-true _ both.1)

-- so a value that leaves one is there
value_there : (t : Sort) (w lo hi : ℕ) → LegalRange t lo hi → leaves t (or_else w 0) lo hi ≡ true → (is_absent w ≡ false) × (leaves t w lo hi ≡ true)
unfolding or_else
value_there t w lo hi r e =
    (elim (is_absent w) as (λ b. leaves t (cond b 0 w) lo hi ≡ true → (b ≡ false) × (leaves t w lo hi ≡ true)) [
      | true ↦ λ h. absurd (zero_stays t lo hi r h)
      | false ↦ λ h. (refl, h)
    ]) e

-- the effective value is the word where it stands, "absent is 0"
effective_or_zero : (w x : ℕ) → or_else w (or_else x 0) ≡ or_else (cond (is_absent w) x w) 0
unfolding or_else
effective_or_zero w x =
    (elim (is_absent w) as (λ b. is_absent w ≡ b → cond b (cond (is_absent x) 0 x) w ≡ cond (is_absent (cond b x w)) 0 (cond b x w)) [
      | true ↦ λ e. refl
      | false ↦ λ e. rw e
    ]) refl

-- an object, a set that leaves its range has a clash
object_found : (s : Sheet) (o : ℕ) (t : Sort) → LegalRange t (field s objects o (object_minimum t)) (field s objects o (object_maximum t)) → object_leaves s o t ≡ true → is_some (object_clash s o t) ≡ true
unfolding object_leaves own_value object_clash
object_found s o t r e = let h = value_there t (field s objects o (object_value t)) _ _ r e in range_found s t _ _ _ h.0 h.1

-- a set's effective range is its own or the object's
effective_range : (s : Sheet) (o v : ℕ) (t : Sort) → LegalRange t (field s objects o (object_minimum t)) (field s objects o (object_maximum t)) → LegalRange t (field s value_sets v (set_minimum t)) (field s value_sets v (set_maximum t))
    → LegalRange t (effective_minimum s o v t) (effective_maximum s o v t)
unfolding effective_minimum effective_maximum
effective_range s o v t r q =
    elim (eqb (field s value_sets v set_own) 1) as (λ b. LegalRange t (cond b (field s value_sets v (set_minimum t)) (field s objects o (object_minimum t))) (cond b (field s value_sets v (set_maximum t)) (field s objects o (object_maximum t)))) [
      | true ↦ q
      | false ↦ r
    ]

minimum_word : (s : Sheet) (o v : ℕ) (t : Sort) → word_at s (range_place s o v (set_minimum t) (object_minimum t)) ≡ effective_minimum s o v t
unfolding range_place effective_minimum
minimum_word s o v t = word_cond s (eqb (field s value_sets v set_own) 1) (in_set v (set_minimum t)) (in_object o (object_minimum t))

maximum_word : (s : Sheet) (o v : ℕ) (t : Sort) → word_at s (range_place s o v (set_maximum t) (object_maximum t)) ≡ effective_maximum s o v t
unfolding range_place effective_maximum
maximum_word s o v t = word_cond s (eqb (field s value_sets v set_own) 1) (in_set v (set_maximum t)) (in_object o (object_maximum t))

-- whose figures they are at object o; at set v of object o
abbrev AtObject : ℕ → Sort → Figure → Figure → Type 0
AtObject o t value bound = OfObject o value × OfObject o bound

abbrev AtSet : Sheet → ℕ → ℕ → Sort → Figure → Figure → Type 0
AtSet s o v t value bound = SetValue s o v t value × SetBound s o v value bound

-- the effective value and a word of the effective range are of the set or of its object
effective_value_lem : (s : Sheet) (o v : ℕ) (t : Sort) → SetValue s o v t (told s (effective_place s o v t))
unfolding effective_place
effective_value_lem s o v t =
    (elim (is_absent (field s value_sets v (set_value t))) as (λ b. is_absent (field s value_sets v (set_value t)) ≡ b → SetValue s o v t (told s (cond b (in_object o (object_value t)) (in_set v (set_value t))))) [
      | true ↦ λ e. inr ((refl, refl), e)
      | false ↦ λ e. inl ((refl, refl), e)
    ]) refl

effective_bound : (s : Sheet) (o v inside outside : ℕ) (value : Figure) → SetBound s o v value (told s (range_place s o v inside outside))
unfolding range_place
effective_bound s o v inside outside value =
    (elim (eqb (field s value_sets v set_own) 1) as (λ b. eqb (field s value_sets v set_own) 1 ≡ b → SetBound s o v value (told s (cond b (in_set v inside) (in_object o outside)))) [
      | true ↦ λ e. inl ((refl, refl), eqb-true _ _ e)
      | false ↦ λ e. inr ((refl, refl), inl (eqb-false _ _ e))
    ]) refl

module _ (s : Sheet) (o : ℕ) (t : Sort) (l : o < count s objects) (r : LegalRange t (field s objects o (object_minimum t)) (field s objects o (object_maximum t))) where
  object_value_bears : Bears s t value_at (in_object o (object_value t))
  object_value_bears = record { inside = l; place = refl }

  object_minimum_bears : Bears s t minimum_at (in_object o (object_minimum t))
  object_minimum_bears = record { inside = l; place = refl }

  object_maximum_bears : Bears s t maximum_at (in_object o (object_maximum t))
  object_maximum_bears = record { inside = l; place = refl }

  object_beyond : IfSome (object_clash s o t) (Beyond s (AtObject o))
  unfolding object_clash
  object_beyond =
      range_beyond s t _ _ _ (AtObject o) ((refl, refl), (refl, refl)) ((refl, refl), (refl, refl)) object_value_bears object_minimum_bears object_maximum_bears r

  module _ (v : ℕ) (m : v < count s value_sets) where
    set_value_bears : Bears s t value_at (in_set v (set_value t))
    set_value_bears = record { inside = m; place = refl }

    set_minimum_bears : Bears s t minimum_at (in_set v (set_minimum t))
    set_minimum_bears = record { inside = m; place = refl }

    set_maximum_bears : Bears s t maximum_at (in_set v (set_maximum t))
    set_maximum_bears = record { inside = m; place = refl }

    effective_value_bears : Bears s t value_at (effective_place s o v t)
    unfolding effective_place
    effective_value_bears = bears_cond s t value_at _ _ _ object_value_bears set_value_bears

    range_bears : (at : ℕ → Sort → ℕ) (inside outside : ℕ) → Bears s t at (in_set v inside) → Bears s t at (in_object o outside) → Bears s t at (range_place s o v inside outside)
    unfolding range_place
    range_bears at inside outside x y = bears_cond s t at _ _ _ x y

    effective_beyond : LegalRange t (effective_minimum s o v t) (effective_maximum s o v t) → IfSome (effective_clash s o v t) (Beyond s (AtSet s o v))
    unfolding effective_clash
    effective_beyond q =
        range_beyond s t _ _ _ (AtSet s o v)
        (effective_value_lem s o v t, effective_bound s o v (set_minimum t) (object_minimum t) (told s (effective_place s o v t)))
        (effective_value_lem s o v t, effective_bound s o v (set_maximum t) (object_maximum t) (told s (effective_place s o v t)))
        effective_value_bears (range_bears minimum_at (set_minimum t) (object_minimum t) set_minimum_bears object_minimum_bears)
        (range_bears maximum_at (set_maximum t) (object_maximum t) set_maximum_bears object_maximum_bears)
        (rw (minimum_word s o v t, maximum_word s o v t) q)

    own_beyond : IfSome (own_clash s o v t) (Beyond s (AtSet s o v))
    unfolding own_clash
    own_beyond =
        where_found (Beyond s (AtSet s o v)) (range_clash s t (in_set v (set_value t)) (in_object o (object_minimum t)) (in_object o (object_maximum t))) (λ e.
        let there : is_absent (field s value_sets v (set_value t)) ≡ false = clash_there s t (in_set v (set_value t)) (in_object o (object_minimum t)) (in_object o (object_maximum t)) e in
        range_beyond s t _ _ _ (AtSet s o v)
        (inl ((refl, refl), there), inr ((refl, refl), inr (refl, refl)))
        (inl ((refl, refl), there), inr ((refl, refl), inr (refl, refl)))
        set_value_bears object_minimum_bears object_maximum_bears r)

value_word : (s : Sheet) (o v : ℕ) (t : Sort) → effective_value s o v t ≡ or_else (word_at s (effective_place s o v t)) 0
unfolding effective_place effective_value own_value
value_word s o v t =
    effective_or_zero (field s value_sets v (set_value t)) (field s objects o (object_value t))
    ∙ ap (λ (w : ℕ). or_else w 0) (sym (word_cond s (is_absent (field s value_sets v (set_value t))) (in_object o (object_value t)) (in_set v (set_value t))))

effective_found : (s : Sheet) (o v : ℕ) (t : Sort) → LegalRange t (effective_minimum s o v t) (effective_maximum s o v t)
    → leaves t (effective_value s o v t) (effective_minimum s o v t) (effective_maximum s o v t) ≡ true → is_some (effective_clash s o v t) ≡ true
unfolding effective_clash
effective_found s o v t r e =
    let h = value_there t (word_at s (effective_place s o v t)) _ _ r (rw (value_word s o v t) at e) in
    range_found s t _ _ _ h.0 (rw (minimum_word s o v t, maximum_word s o v t) h.1)

own_found : (s : Sheet) (o v : ℕ) (t : Sort) → (not (is_absent (field s value_sets v (set_value t))) && leaves t (field s value_sets v (set_value t)) (field s objects o (object_minimum t)) (field s objects o (object_maximum t))) ≡ true
    → is_some (own_clash s o v t) ≡ true
unfolding own_clash range_clash
own_found s o v t e = clash_found _ _ _ ∙ e

set_found : (s : Sheet) (o v : ℕ) (t : Sort) → LegalRange t (effective_minimum s o v t) (effective_maximum s o v t) → set_leaves s o v t ≡ true
    → (is_some (effective_clash s o v t) ≡ true) ⊎ (is_some (own_clash s o v t) ≡ true)
unfolding set_leaves
set_found s o v t r e =
    ⊎_elim (λ h. inl (effective_found s o v t r h)) (λ h. inr (own_found s o v t h))
    (or_either (leaves t (effective_value s o v t) (effective_minimum s o v t) (effective_maximum s o v t))
    (not (is_absent (field s value_sets v (set_value t))) && leaves t (field s value_sets v (set_value t)) (field s objects o (object_minimum t)) (field s objects o (object_maximum t)))
    e)

-- the first clash of an object, of a set
objects_found : (s : Sheet) (o : ℕ) → ((t : Sort) → LegalRange t (field s objects o (object_minimum t)) (field s objects o (object_maximum t)))
    → (object_leaves s o Gains || object_leaves s o Offsets) ≡ true → is_some (object_clashes s o) ≡ true
unfolding object_clashes
objects_found s o r e =
    ⊎_elim (λ h. first_found _ _ (object_found s o Gains (r Gains) h)) (λ h. second_found _ _ (object_found s o Offsets (r Offsets) h))
    (or_either (object_leaves s o Gains) (object_leaves s o Offsets) e)

objects_beyond : (s : Sheet) (o : ℕ) → o < count s objects → ((t : Sort) → LegalRange t (field s objects o (object_minimum t)) (field s objects o (object_maximum t)))
    → IfSome (object_clashes s o) (Beyond s (AtObject o))
unfolding object_clashes
objects_beyond s o l r = earlier_keeps (Beyond s (AtObject o)) _ _ (object_beyond s o Gains l (r Gains)) (object_beyond s o Offsets l (r Offsets))

sets_found : (s : Sheet) (o v : ℕ) → ((t : Sort) → LegalRange t (effective_minimum s o v t) (effective_maximum s o v t))
    → (set_leaves s o v Gains || set_leaves s o v Offsets) ≡ true → is_some (set_clashes s o v) ≡ true
unfolding set_clashes
sets_found s o v r e =
    ⊎_elim
    (λ g. ⊎_elim (λ h. first_found _ _ (first_found _ _ h)) (λ h. second_found _ _ (first_found _ _ h)) (set_found s o v Gains (r Gains) g))
    (λ g. ⊎_elim (λ h. first_found _ _ (second_found _ _ h)) (λ h. second_found _ _ (second_found _ _ h)) (set_found s o v Offsets (r Offsets) g))
    (or_either (set_leaves s o v Gains) (set_leaves s o v Offsets) e)

sets_beyond : (s : Sheet) (o v : ℕ) → o < count s objects → v < count s value_sets → ((t : Sort) → LegalRange t (field s objects o (object_minimum t)) (field s objects o (object_maximum t)))
    → ((t : Sort) → LegalRange t (effective_minimum s o v t) (effective_maximum s o v t)) → IfSome (set_clashes s o v) (Beyond s (AtSet s o v))
unfolding set_clashes
sets_beyond s o v l m r q =
    earlier_keeps (Beyond s (AtSet s o v)) _ _
    (earlier_keeps (Beyond s (AtSet s o v)) _ _ (effective_beyond s o Gains l (r Gains) v m (q Gains)) (effective_beyond s o Offsets l (r Offsets) v m (q Offsets)))
    (earlier_keeps (Beyond s (AtSet s o v)) _ _ (own_beyond s o Gains l (r Gains) v m) (own_beyond s o Offsets l (r Offsets) v m))

-- rule 18 at an object, at a value set
rule18_object : (s : Sheet) (langs : List ℕ) (o : ℕ) → breaks s langs 18 objects o ≡ true → (object_leaves s o Gains || object_leaves s o Offsets) ≡ true
unfolding breaks rule18
rule18_object s langs o e = simp or_false at e

rule18_set : (s : Sheet) (langs : List ℕ) (v : ℕ) → breaks s langs 18 value_sets v ≡ true → (set_leaves s (owner s v) v Gains || set_leaves s (owner s v) v Offsets) ≡ true
unfolding breaks rule18
rule18_set s langs v e = e

figures_eighteen : (s : Sheet) (langs : List ℕ) (place : Place) → verdict s langs ≡ Broken 18 place → (x : Clash) → range_clashes s (section_of place) (record_of place) ≡ Some x
    → figures s langs ≡ x.first ∷ x.second ∷ []
unfolding figures_of
figures_eighteen s langs place e x h = broken_figures s langs 18 place e ∙ told_figures (range_clashes s (section_of place) (record_of place)) x h

-- the same figures, as those of the place
placed : (s : Sheet) (P Q : Sort → Figure → Figure → Type 0) (x : Clash) → ((t : Sort) → P t x.first x.second → Q t x.first x.second) → Beyond s P x → Beyond s Q x
placed s P Q x f b =
    record { sort = b.sort; place = f b.sort b.place; value_stands = b.value_stands; value_there = b.value_there; bound_there = b.bound_there; outside = b.outside }

-- A clash that is found at the place of the refusal
abbrev Told : Sheet → ℕ → ℕ → Type 0
Told s section k = Found (Beyond s (BreakAt s section k)) (range_clashes s section k)

module _ (s : Sheet) (langs : List ℕ) (place : Place) (e : verdict s langs ≡ Broken 18 place) where
  object_told : (o : ℕ) → o < count s objects → breaks s langs 18 objects o ≡ true → Told s objects o
  unfolding range_clashes
  object_told o l b =
      let r : (t : Sort) → LegalRange t (field s objects o (object_minimum t)) (field s objects o (object_maximum t)) = λ t. object_range_lem s langs 18 place e six_eighteen o t l in
      let h : is_some (object_clashes s o) ≡ true = objects_found s o r (rule18_object s langs o b) in
      found (Beyond s (BreakAt s objects o)) (object_clashes s o) h (if_some (object_clashes s o) (λ x. placed s (AtObject o) (BreakAt s objects o) x (λ t p. inl (refl, p))) (objects_beyond s o l r))

  -- the effective ranges of a set are legal too
  legal_effective : (o v : ℕ) (t : Sort) → o < count s objects → v < count s value_sets → LegalRange t (effective_minimum s o v t) (effective_maximum s o v t)
  legal_effective o v t l m = effective_range s o v t (object_range_lem s langs 18 place e six_eighteen o t l) (set_range_lem s langs 18 place e six_eighteen v t m)

  set_told : (v : ℕ) → v < count s value_sets → breaks s langs 18 value_sets v ≡ true → Told s value_sets v
  unfolding range_clashes
  set_told v m b =
      let o : ℕ = owner s v in
      let l : o < count s objects = owner_index s langs 18 place e eleven_eighteen v m in
      let r : (t : Sort) → LegalRange t (effective_minimum s o v t) (effective_maximum s o v t) = λ t. legal_effective o v t l m in
      let h : is_some (set_clashes s o v) ≡ true = sets_found s o v r (rule18_set s langs v b) in
      let beyond : IfSome (set_clashes s o v) (Beyond s (AtSet s o v)) = sets_beyond s o v l m (λ t. object_range_lem s langs 18 place e six_eighteen o t l) r in
      found (Beyond s (BreakAt s value_sets v)) (set_clashes s o v) h (if_some (set_clashes s o v) (λ x. placed s (AtSet s o v) (BreakAt s value_sets v) x (λ t p. inr (refl, p))) beyond)

-- the places that rule 18 has
told_at : (s : Sheet) (langs : List ℕ) (place : Place) → verdict s langs ≡ Broken 18 place → BrokenAt s langs 18 (section_of place) (record_of place) → Told s (section_of place) (record_of place)
unfolding subjects subject_kind
told_at s langs (Object k) e b = object_told s langs (Object k) e k b.subject b.broken
told_at s langs (ValueSet k) e b = set_told s langs (ValueSet k) e k b.subject b.broken
told_at s langs place e b = absurd (omega arith)

pub range_left : (s : Sheet) (langs : List ℕ) (place : Place) → verdict s langs ≡ Broken 18 place → RangeLeft s langs (section_of place) (record_of place)
range_left s langs place e =
    let h : Told s (section_of place) (record_of place) = told_at s langs place e (broken_first s langs 18 place e).here in
    record {
      sort = h.keeps.sort;
      value = h.clash.first;
      bound = h.clash.second;
      listed = figures_eighteen s langs place e h.clash h.is;
      place = h.keeps.place;
      value_stands = h.keeps.value_stands;
      value_there = h.keeps.value_there;
      bound_there = h.keeps.bound_there;
      outside = h.keeps.outside;
    }
