-- The listing of a sound state: how long it is, what is in it, and which members of a group sound. Assumes nothing.
use Prim.Native.Nat.{ℕ, ◌+◌, ◌<◌, ◌≤◌, zero-le}
use mathlib.Core.Path.{◌≡◌, refl, sym, ap, ap₂, ◌∙◌}
use mathlib.Core.Bool.{Bool, true, false, true≢false, cond, not, ◌&&◌}
use mathlib.Core.List.{List, []}
use mathlib.Core.Logic.{⊎_elim}
use native.Mathlib.Omega.{arith}
use native.Mathlib.Nat.{le_trans}
use lib.Dec.{eqb}
use lib.ListN.{length, length-append}
use borrow.Author.Tests.{ltb-true, ltb-false, eqb-true, eq-eqb}
use borrow.Table.Steps.{cases}
use Rattle.sheet.specs.Words.{Sheet}
use Rattle.sheet.specs.Layout.{count, field, number, entry}
use Rattle.sheet.specs.Fields.{programmes, contents, objects, content_list, content_object, track_list, child_list}
use Rattle.profile.specs.Counting.{any, how_many, sum, concat_below}
use Rattle.profile.specs.Relations.{has_pack, has_children, top, leader, complement, member, members, leader_of, lone, includes, included, wholly_included, size, share, counted_tracks, channels, track_at}
use Rattle.profile.specs.AcceptedSheet.{AcceptedSheet}
use Rattle.profile.proofs.CountingLaws.{any_how_many}
use Rattle.profile.proofs.ListLaws.{length_concat, length_tabulate}
use Rattle.profile.proofs.SumLaws.{sum_le, sum_eq, sum_one, sum_swap, sum_at, sum_more, how_many_sum, any_one, largest_one, unit_bound}
use Rattle.profile.proofs.GroupLaws.{any_witness, lists_leader, leader_lists, no_leader, member_of, member_at, member_zero, member_index, leads_itself, leader_index, included_top, whole_member}
use Rattle.listener.specs.declared.State.{State}
use Rattle.listener.specs.State.{state_objects, setting, active}
use Rattle.granted.specs.Granted.{in_whole_group}
use Rattle.listener.specs.Sound.{active_members, sound_activity, sound}
use Rattle.listener.specs.Listing.{own_entries, object_entries, entries}
use Rattle.guarantee.proofs.SoundLaws.{sound_programme, sound_object, included_parts, rest_parts}
use Rattle.guarantee.proofs.ValueLaws.{resting_parts}

-- how long a list is that an active object gives
when_length : {X : Type 0} (b : Bool) (xs : List X) → length (cond b xs []) ≡ cond b (length xs) 0
when_length true xs = refl
when_length false xs = refl

module _ (s : Sheet) (a : AcceptedSheet s) where
  -- an object's entries are as many as its size
  no_tracks : (o : ℕ) → o < count s objects → has_children s o ≡ true → number s objects o track_list ≡ 0
  no_tracks o l e = a.track_number o l ∙ (unfold channels in rw e)

  no_children : (o : ℕ) → has_children s o ≡ false → number s objects o child_list ≡ 0
  unfolding has_children
  no_children o e = omega (arith, ltb-false 0 (number s objects o child_list) e)

  own_length : (o : ℕ) → length (own_entries s o) ≡ number s objects o track_list
  unfolding own_entries
  own_length o = length_tabulate (λ i. record { object = o; track = track_at s o i }) (number s objects o track_list)

  children_length : (o n : ℕ) → length (concat_below (λ i. own_entries s (entry s objects o child_list i)) n) ≡ sum (λ i. number s objects (entry s objects o child_list i) track_list) n
  children_length o n =
      length_concat (λ i. own_entries s (entry s objects o child_list i)) n
      ∙ sum_eq (λ i. length (own_entries s (entry s objects o child_list i))) (λ i. number s objects (entry s objects o child_list i) track_list) n (λ i l. own_length (entry s objects o child_list i))

  object_length : (o : ℕ) → o < count s objects → length (object_entries s o) ≡ size s o
  unfolding object_entries size
  object_length o l =
      length-append (own_entries s o) (concat_below (λ i. own_entries s (entry s objects o child_list i)) (number s objects o child_list))
      ∙ ap₂ (λ (x y : ℕ). x + y) (own_length o) (children_length o (number s objects o child_list))
      ∙ cases (has_children s o)
      (λ e. rw (e, no_tracks o l e) (omega arith))
      (λ e. rw (e, no_children o e) (unfold sum in omega arith))

  -- and there is one at least
  leaf_size : (o : ℕ) → o < count s objects → has_pack s o ≡ true → 1 ≤ number s objects o track_list
  leaf_size o l e = rw (a.track_number o l) (a.some_channel o l e)

  pub some_size : (o : ℕ) → o < count s objects → 1 ≤ size s o
  unfolding size
  some_size o l =
      cases (has_children s o)
      (λ e.
      let n : 0 < number s objects o child_list = unfold has_children in ltb-true _ _ e in
      let c : ℕ = entry s objects o child_list 0 in
      rw e (le_trans (leaf_size c (a.child_index o 0 l n) (a.child_pack o 0 l n)) (sum_one (λ i. number s objects (entry s objects o child_list i) track_list) (number s objects o child_list) 0 n)))
      (λ e. rw e (leaf_size o l (a.pack_or_children o l ∙ ap not e)))

-- a part of a test counts no more than the whole
part_count : (b c : Bool) → cond (b && c) 1 0 ≤ cond b 1 0
part_count true true = omega arith
part_count true false = omega arith
part_count false c = omega arith

none : (b : Bool) {n : ℕ} → cond (b && false) 1 0 ≤ n
none true = zero-le
none false = zero-le

-- an object whose leader is u is among the members of u, where u is a leader
among_members : (s : Sheet) (st : State) (u o : ℕ) → leader s u ≡ true
    → cond (active st o && eqb (leader_of s o) u) 1 0 ≤ sum (λ i. cond (eqb (member s u i) o) (cond (active st o) 1 0) 0) (members s u)
among_members s st u o e =
    cases (eqb (leader_of s o) u)
    (λ q.
    let z : leader_of s o ≡ u = eqb-true (leader_of s o) u q in
    let w = member_at s o u z e in
    let f : ℕ → ℕ = λ i. cond (eqb (member s u i) o) (cond (active st o) 1 0) 0 in
    let at_it : f w.0 ≡ cond (active st o) 1 0 = ap (λ (b : Bool). cond b (cond (active st o) 1 0) 0) (eq-eqb (member s u w.0) o w.2) in
    le_trans (part_count (active st o) (eqb (leader_of s o) u)) (rw at_it at (sum_one f (members s u) w.0 w.1)))
    (λ q. rw q (none (active st o)))

-- where u is no leader, it alone has itself for a leader
only_itself : (s : Sheet) (st : State) (u o : ℕ) → leader s u ≡ false → cond (active st o && eqb (leader_of s o) u) 1 0 ≤ cond (eqb u o) 1 0
only_itself s st u o e =
    cases (eqb (leader_of s o) u)
    (λ q.
    let z : leader_of s o ≡ u = eqb-true (leader_of s o) u q in
    let y : u ≡ o = sym z ∙ no_leader s o (rw z e) in
    rw (eq-eqb u o y) (le_trans (part_count (active st o) (eqb (leader_of s o) u)) (small_count (active st o))))
    (λ q. rw q (none (active st o)))
  where
    small_count : (b : Bool) → cond b 1 0 ≤ 1
    small_count true = omega arith
    small_count false = omega arith

-- a member is no larger than the largest of its group
member_share : (s : Sheet) (o : ℕ) → leader s (leader_of s o) ≡ true → size s o ≤ share s (leader_of s o)
unfolding share
member_share s o e =
    let w = member_of s o e in
    let l : ℕ = leader_of s o in
    rw e (rw w.2 at (largest_one (λ i. size s (member s l i)) (members s l) w.0 w.1))

-- a top object whose leader is none is in no group
lone_share : (s : Sheet) (o : ℕ) → top s o ≡ true → leader s (leader_of s o) ≡ false → size s o ≤ share s o
unfolding share lone
lone_share s o t e =
    let itself : leader_of s o ≡ o = no_leader s o e in
    let no_list : leader s o ≡ false = rw itself at e in
    let unlisted : complement s o ≡ false = alone in
    rw (no_list, t, unlisted) (omega arith)
  where
    alone : complement s o ≡ false
    alone =
        cases (complement s o)
        (λ c. absurd (true≢false (sym (lists_leader s (leader_of s o) o (leader_lists s o c).1) ∙ e)))
        (λ c. c)

module _ (s : Sheet) (a : AcceptedSheet s) (few : count s objects ≤ state_objects) (st : State) (h : sound s st ≡ true) where
  abbrev p : ℕ
  p = st.programme

  p_index : p < count s programmes
  p_index = sound_programme s st h

  -- an active object is included, so it is a top object of the sheet
  active_included : (o : ℕ) → o < state_objects → active st o ≡ true → includes s p o ≡ true
  unfolding active
  active_included o k e =
      cases (includes s p o)
      (λ i. i)
      (λ i. absurd (true≢false (sym e ∙ (resting_parts (setting st o) (rest_parts s st o i (sound_object s st h o k))).0)))

  pub active_top : (o : ℕ) → o < state_objects → active st o ≡ true → (o < count s objects) × (top s o ≡ true)
  active_top o k e = included_top s a p o p_index (active_included o k e)

  inactive_past : (o : ℕ) → count s objects ≤ o → o < state_objects → active st o ≡ false
  inactive_past o g k =
      cases (active st o)
      (λ e. absurd (omega (arith, (active_top o k e).0)))
      (λ e. e)

  small : (o : ℕ) → o < count s objects → o < state_objects
  small o l = omega arith

  -- the listing is as long as the active objects are large
  pub listing_length : length (entries s st) ≡ sum (λ o. cond (active st o) (size s o) 0) (count s objects)
  unfolding entries
  listing_length =
      length_concat (λ o. cond (active st o) (object_entries s o) []) state_objects
      ∙ sum_more (λ o. length (cond (active st o) (object_entries s o) [])) (count s objects) state_objects (few)
      (λ o g k. when_length (active st o) (object_entries s o) ∙ rw (inactive_past o g k))
      ∙ sum_eq (λ o. length (cond (active st o) (object_entries s o) [])) (λ o. cond (active st o) (size s o) 0) (count s objects)
      (λ o l. when_length (active st o) (object_entries s o) ∙ ap (λ (n : ℕ). cond (active st o) n 0) (object_length s a o l))

  -- an included object of a wholly included group has one active member in it
  pub whole_active : (o : ℕ) → o < count s objects → includes s p o ≡ true → in_whole_group s p o ≡ true → active_members s st (leader_of s o) ≡ 1
  unfolding sound_activity
  whole_active o l i w = eqb-true _ _ (rw w at (included_parts s st o i (sound_object s st h o (small o l))).0)

  -- outside such groups an included object is active
  single_active : (o : ℕ) → o < count s objects → includes s p o ≡ true → in_whole_group s p o ≡ false → active st o ≡ true
  unfolding sound_activity
  single_active o l i w = rw w at (included_parts s st o i (sound_object s st h o (small o l))).0

  leader_whole : (l : ℕ) → leader s l ≡ true → wholly_included s p l ≡ true → in_whole_group s p l ≡ true
  unfolding in_whole_group
  leader_whole l e w = rw (leads_itself s a l e, e, w)

  pub group_active : (l : ℕ) → l < count s objects → leader s l ≡ true → wholly_included s p l ≡ true → active_members s st l ≡ 1
  group_active l m e w =
      let i : includes s p l ≡ true = rw (member_zero s l) at (whole_member s a p l 0 w (unfold members in omega arith)) in
      rw (leads_itself s a l e) at (whole_active l m i (leader_whole l e w))

  -- of any group one member at most is active
  member_bound : (l : ℕ) → l < count s objects → active_members s st l ≤ included s p l
  unfolding active_members included
  member_bound l m =
      rw (how_many_sum (λ i. active st (member s l i)) (members s l), how_many_sum (λ i. includes s p (member s l i)) (members s l))
      (sum_le (λ i. cond (active st (member s l i)) 1 0) (λ i. cond (includes s p (member s l i)) 1 0) (members s l) (λ i k. implied (member s l i) (member_index s a l i m k)))
    where
      implied : (o : ℕ) → o < count s objects → cond (active st o) 1 0 ≤ cond (includes s p o) 1 0
      implied o k =
          cases (active st o)
          (λ e. rw (e, active_included o (small o k) e) (omega arith))
          (λ e. rw e zero-le)

  one_member : (l : ℕ) → l < count s objects → leader s l ≡ true → active_members s st l ≤ 1
  one_member l m e =
      ⊎_elim (λ q. omega (arith, member_bound l m))
      (λ r. ⊎_elim (λ q. omega (arith, member_bound l m)) (λ q. omega (arith, group_active l m e q)) r)
      (a.group_included p l p_index m e)

  -- the active objects of a unit: members of the leader's group, or the object itself
  abbrev of_unit : ℕ → ℕ → Bool
  of_unit u o = active st o && eqb (leader_of s o) u

  unit_of_leader : (u : ℕ) → u < count s objects → leader s u ≡ true → how_many (of_unit u) (count s objects) ≤ active_members s st u
  unfolding active_members
  unit_of_leader u m e =
      let n : ℕ = count s objects in
      let f : ℕ → ℕ → ℕ = λ o i. cond (eqb (member s u i) o) (cond (active st o) 1 0) 0 in
      rw (how_many_sum (of_unit u) n, how_many_sum (λ i. active st (member s u i)) (members s u))
      (le_trans (sum_le (λ o. cond (of_unit u o) 1 0) (λ o. sum (f o) (members s u)) n (λ o k. among_members s st u o e))
      (rw (sum_swap f n (members s u))
      (sum_le (λ i. sum (λ o. f o i) n) (λ i. cond (active st (member s u i)) 1 0) (members s u)
      (λ i k. rw (sum_at (λ o. cond (active st o) 1 0) (member s u i) n (member_index s a u i m k)) (omega arith)))))

  unit_of_single : (u : ℕ) → u < count s objects → leader s u ≡ false → how_many (of_unit u) (count s objects) ≤ 1
  unit_of_single u m e =
      let n : ℕ = count s objects in
      rw (how_many_sum (of_unit u) n)
      (le_trans (sum_le (λ o. cond (of_unit u o) 1 0) (λ o. cond (eqb u o) 1 0) n (λ o k. only_itself s st u o e)) (rw (sum_at (λ o. 1) u n m) (omega arith)))

  one_of_unit : (u : ℕ) → u < count s objects → how_many (of_unit u) (count s objects) ≤ 1
  one_of_unit u m =
      cases (leader s u)
      (λ e. le_trans (unit_of_leader u m e) (one_member u m e))
      (λ e. unit_of_single u m e)

  -- an active object is no larger than its unit's share
  in_share : (o : ℕ) → o < count s objects → active st o ≡ true → (leader_of s o < count s objects) × (size s o ≤ share s (leader_of s o))
  in_share o l e = (
    leader_index s o l,
    cases (leader s (leader_of s o))
        (λ q. member_share s o q)
        (λ q. rw (no_leader s o q) (lone_share s o (active_top o (small o l) e).1 q)),
  )

  -- the upper bound: at most the counted tracks
  pub listing_most : length (entries s st) ≤ counted_tracks s
  unfolding counted_tracks
  listing_most = rw listing_length (unit_bound (count s objects) (active st) (size s) (share s) (leader_of s) one_of_unit in_share)

  -- the lower bound: some object is active
  abbrev first_object : ℕ
  first_object = field s contents (entry s programmes p content_list 0) content_object

  first_included : includes s p first_object ≡ true
  unfolding includes
  first_included =
      any_one (λ i. eqb (field s contents (entry s programmes p content_list i) content_object) first_object) (number s programmes p content_list) 0 (a.some_content p p_index) (eq-eqb first_object first_object refl)

  some_active : (o : ℕ) × (o < count s objects) × (active st o ≡ true)
  some_active =
      let l = (included_top s a p first_object p_index first_included).0 in
      cases (in_whole_group s p first_object)
      (λ w.
      let g : ℕ = leader_of s first_object in
      let one : how_many (λ i. active st (member s g i)) (members s g) ≡ 1 = unfold active_members in whole_active first_object l first_included w in
      let t : any (λ i. active st (member s g i)) (members s g) ≡ true = any_how_many (λ i. active st (member s g i)) (members s g) ∙ ap (λ (n : ℕ). not (eqb n 0)) one in
      let k = any_witness (λ i. active st (member s g i)) (members s g) t in
      (member s g k.0, member_index s a g k.0 (leader_index s first_object l) k.1, k.2))
      (λ w. (first_object, l, single_active first_object l first_included w))

  pub listing_least : 1 ≤ length (entries s st)
  listing_least =
      let x = some_active in
      let one : cond (active st x.0) (size s x.0) 0 ≡ size s x.0 = ap (λ (b : Bool). cond b (size s x.0) 0) x.2 in
      rw listing_length (le_trans (some_size s a x.0 x.1) (rw one at (sum_one (λ o. cond (active st o) (size s o) 0) (count s objects) x.0 x.1)))
