-- The entries of a listing: each is a track of the sheet, and a sounding object has each channel of its pack once. Assumes nothing.
use Prim.Native.Nat.{ℕ, zero, suc, ◌+◌, ◌<◌, ◌≤◌}
use mathlib.Core.Path.{◌≡◌, refl, sym, ap, ap₂, ◌∙◌}
use mathlib.Core.Bool.{Bool, true, false, true≢false, cond, not, ◌&&◌}
use mathlib.Core.List.{List, [], ◌∷◌, ◌++◌}
use native.Mathlib.Omega.{arith}
use native.Mathlib.Nat.{add-zero}
use lib.Dec.{eqb, ltb}
use lib.ListN.{length, get_or}
use borrow.Author.Tests.{ltb-true, ltb-false, eqb-true, eqb-false, eq-eqb, ne_eqb, not-true}
use borrow.Table.Steps.{cases}
use Rattle.std.specs.Prelude.{All}
use Rattle.std.proofs.lemmas.Bool.{and_right}
use Rattle.std.proofs.lemmas.List.Elements.{All-nil, All-cons, All-append, All-get_or, All-map}
use Rattle.sheet.specs.Words.{Sheet}
use Rattle.sheet.specs.Layout.{count, field, number, entry}
use Rattle.sheet.specs.Fields.{objects, packs, tracks, track_list, child_list, pack_channels, track_pack, track_ordinal}
use Rattle.profile.specs.Counting.{how_many, sum, concat_below, tabulate}
use Rattle.profile.specs.Relations.{lists, times, pack_of, has_pack, has_children, top, leader, member, members, wholly_included, namings, channels, track_at}
use Rattle.profile.specs.AcceptedSheet.{AcceptedSheet}
use Rattle.profile.proofs.BoolLaws.{and_both, or_false}
use Rattle.profile.proofs.CountingLaws.{any_how_many}
use Rattle.profile.proofs.SumLaws.{sum_eq, sum_zero, sum_one, sum_two, sum_at, how_many_sum, how_many_eq, any_nowhere}
use Rattle.profile.proofs.GroupLaws.{any_witness, lists_times, member_index, member_top, top_no_child}
use Rattle.listener.specs.declared.State.{State}
use Rattle.listener.specs.State.{state_objects, active}
use Rattle.listener.specs.Sound.{active_members, sound}
use Rattle.listener.specs.Listing.{Entry, sounds, own_entries, object_entries, entries, listed_tracks}
use Rattle.guarantee.specs.Guarantee.{how_many_in, is_channel}
use Rattle.guarantee.proofs.ListingLaws.{active_top, group_active}

-- every element of each list has P
all_concat : {X : Type 0} (P : X → Type 0) (f : ℕ → List X) (n : ℕ) → ((k : ℕ) → k < n → All P (f k)) → All P (concat_below f n)
unfolding concat_below
all_concat P f zero h = All-nil P
all_concat P f (suc n) h = All-append P (concat_below f n) (f n) (all_concat P f n (λ k l. h k (omega arith))) (h n (omega arith))

-- counting in lists
module _ {X : Type 0} (p : X → Bool) where
  count_append : (xs ys : List X) → how_many_in p (xs ++ ys) ≡ how_many_in p xs + how_many_in p ys
  unfolding how_many_in
  count_append [] ys = omega arith
  count_append (x ∷ xs) ys = omega (arith, count_append xs ys)

  count_concat : (f : ℕ → List X) (n : ℕ) → how_many_in p (concat_below f n) ≡ sum (λ k. how_many_in p (f k)) n
  unfolding concat_below sum how_many_in
  count_concat f zero = refl
  count_concat f (suc n) = count_append (concat_below f n) (f n) ∙ ap (λ (x : ℕ). x + how_many_in p (f n)) (count_concat f n)

  count_single : (x : X) → how_many_in p (x ∷ []) ≡ cond (p x) 1 0
  unfolding how_many_in
  count_single x = omega arith

  count_tabulate : (f : ℕ → X) (n : ℕ) → how_many_in p (tabulate f n) ≡ how_many (λ k. p (f k)) n
  unfolding tabulate
  count_tabulate f n =
      count_concat (λ k. f k ∷ []) n
      ∙ sum_eq (λ k. how_many_in p (f k ∷ [])) (λ k. cond (p (f k)) 1 0) n (λ k l. count_single (f k))
      ∙ sym (how_many_sum (λ k. p (f k)) n)

  count_when : (b : Bool) (xs : List X) → how_many_in p (cond b xs []) ≡ cond b (how_many_in p xs) 0
  unfolding how_many_in
  count_when true xs = refl
  count_when false xs = refl

module _ (s : Sheet) (a : AcceptedSheet s) where
  abbrev There : Entry → Type 0
  There e = e.track < count s tracks

  own_there : (o : ℕ) → o < count s objects → All There (own_entries s o)
  unfolding own_entries tabulate
  own_there o l = all_concat There (λ i. record { object = o; track = track_at s o i } ∷ []) (number s objects o track_list) (λ i k. All-cons There _ [] (a.track_index o i l k) (All-nil There))

  object_there : (o : ℕ) → o < count s objects → All There (object_entries s o)
  unfolding object_entries
  object_there o l =
      All-append There (own_entries s o) (concat_below (λ i. own_entries s (entry s objects o child_list i)) (number s objects o child_list)) (own_there o l)
      (all_concat There (λ i. own_entries s (entry s objects o child_list i)) (number s objects o child_list) (λ i k. own_there (entry s objects o child_list i) (a.child_index o i l k)))

  -- an object's own entries have a channel of object o's pack once if it is o, and never else
  no_children_with_pack : (o : ℕ) → o < count s objects → has_pack s o ≡ true → has_children s o ≡ false
  no_children_with_pack o l e = not-true _ (sym (a.pack_or_children o l) ∙ e)

  own_channel : (o n : ℕ) → o < count s objects → n < channels s o → how_many_in (is_channel s o n) (own_entries s o) ≡ 1
  unfolding own_entries is_channel
  own_channel o n l k =
      count_tabulate (is_channel s o n) (λ i. record { object = o; track = track_at s o i }) (number s objects o track_list)
      ∙ how_many_eq (λ i. eqb o o && eqb (field s tracks (track_at s o i) track_pack) (pack_of s o) && eqb (field s tracks (track_at s o i) track_ordinal) n)
      (λ i. eqb (field s tracks (track_at s o i) track_ordinal) n) (number s objects o track_list)
      (λ i m. rw (eq-eqb o o refl, eq-eqb (field s tracks (track_at s o i) track_pack) (pack_of s o) (a.track_pack_lem o i l m)))
      ∙ a.channel_once o n l k

  other_channel : (o q n : ℕ) → (q ≡ o → ⊥) → how_many_in (is_channel s o n) (own_entries s q) ≡ 0
  unfolding own_entries is_channel
  other_channel o q n h =
      count_tabulate (is_channel s o n) (λ i. record { object = q; track = track_at s q i }) (number s objects q track_list)
      ∙ how_many_sum (λ i. eqb q o && eqb (field s tracks (track_at s q i) track_pack) (pack_of s o) && eqb (field s tracks (track_at s q i) track_ordinal) n) (number s objects q track_list)
      ∙ sum_zero (λ i. cond (eqb q o && eqb (field s tracks (track_at s q i) track_pack) (pack_of s o) && eqb (field s tracks (track_at s q i) track_ordinal) n) 1 0) (number s objects q track_list)
      (λ i m. rw (ne_eqb q o h))

  own_count : (o q n : ℕ) → o < count s objects → n < channels s o → how_many_in (is_channel s o n) (own_entries s q) ≡ cond (eqb q o) 1 0
  own_count o q n l k =
      cases (eqb q o)
      (λ e. let z : q ≡ o = eqb-true q o e in rw e (rw z (own_channel o n l k)))
      (λ e. rw e (other_channel o q n (eqb-false q o e)))

  -- what an object gives: once for itself, and once for each naming in its child list
  object_count : (o q n : ℕ) → o < count s objects → n < channels s o → how_many_in (is_channel s o n) (object_entries s q) ≡ cond (eqb q o) 1 0 + times s objects q child_list o
  unfolding object_entries times
  object_count o q n l k =
      count_append (is_channel s o n) (own_entries s q) (concat_below (λ i. own_entries s (entry s objects q child_list i)) (number s objects q child_list))
      ∙ ap₂ (λ (x y : ℕ). x + y) (own_count o q n l k)
      (count_concat (is_channel s o n) (λ i. own_entries s (entry s objects q child_list i)) (number s objects q child_list)
      ∙ sum_eq (λ i. how_many_in (is_channel s o n) (own_entries s (entry s objects q child_list i))) (λ i. cond (eqb (entry s objects q child_list i) o) 1 0) (number s objects q child_list) (λ i m. own_count o (entry s objects q child_list i) n l k)
      ∙ sym (how_many_sum (λ i. eqb (entry s objects q child_list i) o) (number s objects q child_list)))

-- a test for equality may be turned round
swapped : (x y : ℕ) → eqb x y ≡ eqb y x
swapped x y =
    cases (eqb y x)
    (λ e. eq-eqb x y (sym (eqb-true y x e)) ∙ sym e)
    (λ e. ne_eqb x y (λ z. eqb-false y x e (sym z)) ∙ sym e)

-- what a list names never is not in it
not_listed : (s : Sheet) (section k at x : ℕ) → times s section k at x ≡ 0 → lists s section k at x ≡ false
unfolding lists times
not_listed s section k at x e = any_how_many (λ i. eqb (entry s section k at i) x) (number s section k at) ∙ ap (λ (n : ℕ). not (eqb n 0)) e

module _ (s : Sheet) (a : AcceptedSheet s) (few : count s objects ≤ state_objects) (st : State) (h : sound s st ≡ true) where
  small : (o : ℕ) → o < count s objects → o < state_objects
  small o l = omega (arith, few)

  -- every entry is a track of the sheet
  pub tracks_exist : (i : ℕ) → i < length (listed_tracks s st) → get_or (listed_tracks s st) i 0 < count s tracks
  unfolding listed_tracks entries
  tracks_exist i l =
      let below : ℕ → Type 0 = λ m. m < count s tracks in
      All-get_or below _ i 0 l (All-map below (λ (e : Entry). e.track) _ (all_concat (There s a) (λ o. cond (active st o) (object_entries s o) []) state_objects of_object))
    where
      of_object : (o : ℕ) → o < state_objects → All (There s a) (cond (active st o) (object_entries s o) [])
      of_object o k =
          cases (active st o)
          (λ e. rw e (object_there s a o (active_top s a few st h o k e).0))
          (λ e. rw e (All-nil (There s a)))

  -- how often a channel of object o is listed
  abbrev heard : ℕ → ℕ → ℕ
  heard o q = cond (active st q) (cond (eqb q o) 1 0 + times s objects q child_list o) 0

  listed_count : (o n : ℕ) → o < count s objects → n < channels s o → how_many_in (is_channel s o n) (entries s st) ≡ sum (heard o) state_objects
  unfolding entries
  listed_count o n l k =
      count_concat (is_channel s o n) (λ q. cond (active st q) (object_entries s q) []) state_objects
      ∙ sum_eq (λ q. how_many_in (is_channel s o n) (cond (active st q) (object_entries s q) [])) (heard o) state_objects
      (λ q m. count_when (is_channel s o n) (active st q) (object_entries s q) ∙ ap (λ (x : ℕ). cond (active st q) x 0) (object_count s a o q n l k))

  -- an active object is heard from itself alone
  heard_itself : (o q : ℕ) → o < count s objects → active st o ≡ true → q < state_objects → heard o q ≡ cond (eqb o q) 1 0
  heard_itself o q l e k =
      cases (active st q)
      (λ f.
      let none : times s objects q child_list o ≡ 0 = top_no_child s a o q l (active_top s a few st h q k f).0 (active_top s a few st h o (small o l) e).1 in
      rw (f, none, add-zero, swapped q o))
      (λ f. rw (f, ne_eqb o q (λ z. true≢false (sym e ∙ ap (active st) z ∙ f))))

  -- a child of one active object is heard from that alone
  child_lists : (o : ℕ) → o < count s objects → sum (λ q. times s objects q child_list o) (count s objects) ≤ 1
  unfolding namings
  child_lists o l = omega (arith, a.named_once o l)

  elsewhere : (o r q : ℕ) → o < count s objects → r < count s objects → q < count s objects → 1 ≤ times s objects r child_list o → (r ≡ q → ⊥) → times s objects q child_list o ≡ 0
  elsewhere o r q l m n g d =
      let f : ℕ → ℕ = λ j. times s objects j child_list o in
      cases (ltb r q)
      (λ x. omega (arith, child_lists o l, sum_two f (count s objects) r q (ltb-true r q x) n))
      (λ x. cases (ltb q r)
      (λ y. omega (arith, child_lists o l, sum_two f (count s objects) q r (ltb-true q r y) m))
      (λ y. absurd (d (omega (arith, ltb-false r q x, ltb-false q r y)))))

  heard_child : (o r q : ℕ) → o < count s objects → active st o ≡ false → r < count s objects → active st r ≡ true → 1 ≤ times s objects r child_list o → q < state_objects
      → heard o q ≡ cond (eqb r q) 1 0
  heard_child o r q l e m f g k =
      cases (eqb r q)
      (λ x.
      let z : r ≡ q = eqb-true r q x in
      let one : times s objects r child_list o ≡ 1 = omega (arith, child_lists o l, sum_one (λ j. times s objects j child_list o) (count s objects) r m) in
      rw (x, sym z, f, one, ne_eqb r o (λ y. true≢false (sym f ∙ ap (active st) y ∙ e))))
      (λ x.
      cases (active st q)
      (λ y. rw (x, y, ne_eqb q o (λ z. true≢false (sym y ∙ ap (active st) z ∙ e)), elsewhere o r q l m (active_top s a few st h q k y).0 g (eqb-false r q x)))
      (λ y. rw (x, y)))

  heard_once : (o : ℕ) → o < count s objects → sounds s st o ≡ true → sum (heard o) state_objects ≡ 1
  unfolding sounds
  heard_once o l e =
      cases (active st o)
      (λ f. sum_eq (heard o) (λ q. cond (eqb o q) 1 0) state_objects (λ q k. heard_itself o q l f k) ∙ sum_at (λ q. 1) o state_objects (small o l))
      (λ f.
      let w = any_witness (λ q. active st q && lists s objects q child_list o) (count s objects) (rw f at e) in
      let both = and_both (active st w.0) (lists s objects w.0 child_list o) w.2 in
      sum_eq (heard o) (λ q. cond (eqb w.0 q) 1 0) state_objects (λ q k. heard_child o w.0 q l f w.1 both.0 (lists_times s objects w.0 child_list o both.1) k)
      ∙ sum_at (λ q. 1) w.0 state_objects (small w.0 w.1))

  -- each sounding object with a pack has each channel of it once among its own entries
  pub channels_once : (o : ℕ) → o < count s objects → sounds s st o ≡ true → has_pack s o ≡ true → (n : ℕ) → n < field s packs (pack_of s o) pack_channels
      → how_many_in (is_channel s o n) (entries s st) ≡ 1
  channels_once o l e f n k = listed_count o n l (unfold channels in rw (no_children_with_pack s a o l f) k) ∙ heard_once o l e

  -- a top object sounds while it is active
  top_sounds : (o : ℕ) → o < count s objects → top s o ≡ true → sounds s st o ≡ active st o
  unfolding sounds
  top_sounds o l e =
      rw (any_nowhere (λ q. active st q && lists s objects q child_list o) (count s objects)
      (λ q k. rw (not_listed s objects q child_list o (top_no_child s a o q l k e)) (and_right (active st q) false refl))) (or_false (active st o))

  -- exactly one member of each wholly included group sounds
  pub one_sounds : (l : ℕ) → l < count s objects → leader s l ≡ true → wholly_included s st.programme l ≡ true → how_many (λ i. sounds s st (member s l i)) (members s l) ≡ 1
  one_sounds l m e w =
      how_many_eq (λ i. sounds s st (member s l i)) (λ i. active st (member s l i)) (members s l) (λ i k. top_sounds (member s l i) (member_index s a l i m k) (member_top s a l i m e k))
      ∙ (unfold active_members in group_active s a few st h l m e w)
