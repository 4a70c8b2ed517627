-- What acceptance grants: the only thing of the checker that the listener's proofs use, beside the relations. Assumes nothing.
use Rattle.std.specs.Prelude.{ℕ, ◌<◌, ◌≤◌, ◌≡◌, true, false, not, ◌||◌, ◌⊎◌, eqb}
use Rattle.sheet.specs.Words.{Sheet}
use Rattle.sheet.specs.Layout.{level, count, field, number, entry}
use Rattle.sheet.specs.Fields.{programmes, contents, objects, tracks, value_sets, content_list, set_list, content_object, track_list, child_list, complement_list, track_pack, track_ordinal}
use Rattle.values.specs.declared.Sort.{Sort}
use Rattle.values.specs.Values.{is_absent, is_value, is_minimum, is_maximum, in_range}
use Rattle.profile.specs.Counting.{how_many, sum}
use Rattle.profile.specs.Limits.{limit, objects_limit, counted_limit}
use Rattle.profile.specs.Relations.{times, pack_of, has_pack, has_children, top, leader, included, wholly_included, has_set, owner, named_set, object_value, object_minimum, object_maximum, set_value, set_minimum, set_maximum, own_value, effective_value, effective_minimum, effective_maximum, counted_tracks, namings, channels, track_at}

-- a value word is absent or a value of its sort
abbrev pub Legal : Sort → ℕ → Type 0
Legal t w = (is_absent w || is_value t w) ≡ true

-- a range that is there has a legal minimum and a legal maximum
abbrev pub LegalRange : Sort → ℕ → ℕ → Type 0
LegalRange t lo hi = is_absent lo ≡ false → (is_minimum t lo ≡ true) × (is_maximum t hi ≡ true)

-- a value is in a range, if that is there
abbrev pub Within : Sort → ℕ → ℕ → ℕ → Type 0
Within t lo w hi = is_absent lo ≡ false → in_range t lo w hi ≡ true

pub record AcceptedSheet (s : Sheet) : Type 0 where
  -- the sheet has a programme, and each programme a content
  pub some_programme : 1 ≤ count s programmes
  pub some_content : (p : ℕ) → p < count s programmes → 1 ≤ number s programmes p content_list
  -- every index is one of its section
  pub content_index : (p i : ℕ) → p < count s programmes → i < number s programmes p content_list → entry s programmes p content_list i < count s contents
  pub set_index : (p i : ℕ) → p < count s programmes → i < number s programmes p set_list → named_set s p i < count s value_sets
  pub object_index : (c : ℕ) → c < count s contents → field s contents c content_object < count s objects
  pub track_index : (o i : ℕ) → o < count s objects → i < number s objects o track_list → track_at s o i < count s tracks
  pub child_index : (o i : ℕ) → o < count s objects → i < number s objects o child_list → entry s objects o child_list i < count s objects
  pub complement_index : (o i : ℕ) → o < count s objects → i < number s objects o complement_list → entry s objects o complement_list i < count s objects
  -- contents and child lists name each object once; each value set is in one span
  pub named_once : (o : ℕ) → o < count s objects → namings s o ≡ 1
  pub one_span : (v : ℕ) → v < count s value_sets → how_many (λ o. has_set s o v) (count s objects) ≡ 1
  -- an object has a pack or children, and its children have packs
  pub pack_or_children : (o : ℕ) → o < count s objects → has_pack s o ≡ not (has_children s o)
  pub child_pack : (o i : ℕ) → o < count s objects → i < number s objects o child_list → has_pack s (entry s objects o child_list i) ≡ true
  -- an object's tracks are its pack's channels, each once, and there are some
  pub track_number : (o : ℕ) → o < count s objects → number s objects o track_list ≡ channels s o
  pub track_pack_lem : (o i : ℕ) → o < count s objects → i < number s objects o track_list → field s tracks (track_at s o i) track_pack ≡ pack_of s o
  pub channel_once : (o n : ℕ) → o < count s objects → n < channels s o
      → how_many (λ i. eqb (field s tracks (track_at s o i) track_ordinal) n) (number s objects o track_list) ≡ 1
  pub some_channel : (o : ℕ) → o < count s objects → has_pack s o ≡ true → 1 ≤ channels s o
  -- leaders are top objects; complements are top objects, no leaders, and listed once
  pub leader_top : (o : ℕ) → o < count s objects → leader s o ≡ true → top s o ≡ true
  pub complement_top : (o i : ℕ) → o < count s objects → i < number s objects o complement_list → top s (entry s objects o complement_list i) ≡ true
  pub complement_follows : (o i : ℕ) → o < count s objects → i < number s objects o complement_list → leader s (entry s objects o complement_list i) ≡ false
  pub complement_once : (o i : ℕ) → o < count s objects → i < number s objects o complement_list
      → sum (λ l. times s objects l complement_list (entry s objects o complement_list i)) (count s objects) ≤ 1
  -- values and ranges of objects and sets are legal, and the values are in the ranges
  pub object_value_lem : (o : ℕ) (t : Sort) → o < count s objects → Legal t (field s objects o (object_value t))
  pub object_range_lem : (o : ℕ) (t : Sort) → o < count s objects → LegalRange t (field s objects o (object_minimum t)) (field s objects o (object_maximum t))
  pub object_within : (o : ℕ) (t : Sort) → o < count s objects
      → Within t (field s objects o (object_minimum t)) (own_value s o t) (field s objects o (object_maximum t))
  pub set_value_lem : (v : ℕ) (t : Sort) → v < count s value_sets → Legal t (field s value_sets v (set_value t))
  pub set_range_lem : (v : ℕ) (t : Sort) → v < count s value_sets → LegalRange t (field s value_sets v (set_minimum t)) (field s value_sets v (set_maximum t))
  pub set_within : (v : ℕ) (t : Sort) → v < count s value_sets
      → Within t (effective_minimum s (owner s v) v t) (effective_value s (owner s v) v t) (effective_maximum s (owner s v) v t)
  -- a programme includes none, one or all of a group
  pub group_included : (p l : ℕ) → p < count s programmes → l < count s objects → leader s l ≡ true
      → (included s p l ≡ 0) ⊎ ((included s p l ≡ 1) ⊎ (wholly_included s p l ≡ true))
  -- above level 0 the limits hold
  pub level_most : level s ≤ 2
  pub objects_most : (level s ≡ 0 → ⊥) → count s objects ≤ limit (level s) objects_limit
  pub counted_most : (level s ≡ 0 → ⊥) → counted_tracks s ≤ limit (level s) counted_limit
