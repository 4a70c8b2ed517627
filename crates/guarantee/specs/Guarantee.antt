-- The listening guarantee, demand 3: "after every list of calls from a fresh opening" on a sheet accepted at level 1 or 2. "Demand 3 is
-- a single claim about the whole list, not one for each call." The record has a field for each promise; `listening` in
-- proofs/Guaranteed.antt makes it for every such sheet and every list of calls. Document 02, L2: "what holds after an opening holds for
-- calls lent the same sheet and the same list": acceptance and every call are under one list of languages, `langs`. Assumes nothing.
use Rattle.std.specs.Prelude.{ℕ, ◌+◌, ◌<◌, ◌≤◌, ◌≡◌, Bool, true, false, cond, ◌&&◌, List, [], ◌∷◌, eqb, length, get_or, Ok, Err}
use Rattle.std.proofs.lemmas.List.Edits.{sets}
use Rattle.sheet.specs.Words.{Sheet}
use Rattle.sheet.specs.Layout.{level, count, field}
use Rattle.sheet.specs.Fields.{objects, packs, tracks, pack_channels, track_pack, track_ordinal}
use Rattle.values.specs.declared.Sort.TheVariants.{Gains, Offsets}
use Rattle.values.specs.Signed.{signed_of}
use Rattle.values.specs.Gain.{gain_of, gain_in_range, legal_gain}
use Rattle.values.specs.Offset.{offset_in_range, legal_offset}
use Rattle.profile.specs.Counting.{how_many}
use Rattle.profile.specs.Relations.{pack_of, has_pack, leader, member, members, wholly_included}
use Rattle.listener.specs.declared.State.{State}
use Rattle.listener.specs.declared.Refusal.TheVariants.{NotAccepted, Unsound}
use Rattle.listener.specs.State.{setting}
use Rattle.granted.specs.Granted.{granted_minimum, granted_maximum, grants}
use Rattle.listener.specs.Programme.{start_setting}
use Rattle.listener.specs.Calls.{opened}
use Rattle.listener.specs.Listing.{Entry, sounds, entries, listed_tracks, listing_answer, listed, buffered}
use Rattle.guarantee.specs.Run.{Call, reply, after, last_chosen}

-- "1 to 16 (28) entries": the most at level 1, and at level 2
unfoldable pub most_entries : ℕ → ℕ
most_entries l = cond (eqb l 1) 16 28

-- how many of a list have p
unfoldable pub how_many_in : {X : Type 0} → (X → Bool) → List X → ℕ
how_many_in p [] = 0
how_many_in p (x ∷ xs) = cond (p x) 1 0 + how_many_in p xs

-- "an entry is channel n of a pack if its track names that pack and ordinal n"; an own entry of object o, for its pack
unfoldable pub is_channel : Sheet → ℕ → ℕ → Entry → Bool
is_channel s o n e =
    eqb e.object o && eqb (field s tracks e.track track_pack) (pack_of s o) && eqb (field s tracks e.track track_ordinal) n

-- the promises about one state, at a programme
pub record Promises (s : Sheet) (langs : List ℕ) (p : ℕ) (st : State) : Type 0 where
  -- the listing with enough space ("Enough space is a word for each entry.") is done, gives the number of entries and writes their
  -- tracks; it has 1 to 16 (28) entries, each a track of the sheet
  pub listing_done : (words : ℕ) → length (entries s st) ≤ words → listed s langs st words ≡ Ok (length (entries s st))
  pub listing_written : (buffer : List ℕ) → length (entries s st) ≤ length buffer → buffered s langs st buffer ≡ sets buffer 0 (listed_tracks s st)
  pub at_least_one : 1 ≤ length (entries s st)
  pub at_most_lem : length (entries s st) ≤ most_entries (level s)
  pub tracks_exist : (i : ℕ) → i < length (listed_tracks s st) → get_or (listed_tracks s st) i 0 < count s tracks
  -- exactly one member of each wholly included group sounds
  pub one_sounds : (l : ℕ) → l < count s objects → leader s l ≡ true → wholly_included s p l ≡ true
      → how_many (λ i. sounds s st (member s l i)) (members s l) ≡ 1
  -- each sounding object with a pack has each channel of it exactly once among its own entries
  pub channels_once : (o : ℕ) → o < count s objects → sounds s st o ≡ true → has_pack s o ≡ true
      → (n : ℕ) → n < field s packs (pack_of s o) pack_channels → how_many_in (is_channel s o n) (entries s st) ≡ 1
  -- gains and offsets are legal
  pub gain_legal : (o : ℕ) → o < count s objects → legal_gain (setting st o).gain ≡ true
  pub offset_legal : (o : ℕ) → o < count s objects → legal_offset (setting st o).offset ≡ true
  -- they are in the granted range
  pub gain_in_range_lem : (o : ℕ) → o < count s objects → grants s p o Gains ≡ true
      → gain_in_range (gain_of (granted_minimum s p o Gains)) (setting st o).gain (gain_of (granted_maximum s p o Gains)) ≡ true
  pub offset_in_range_lem : (o : ℕ) → o < count s objects → grants s p o Offsets ≡ true
      → offset_in_range (signed_of (granted_minimum s p o Offsets)) (setting st o).offset (signed_of (granted_maximum s p o Offsets)) ≡ true
  -- and at their start value where none is granted ("its start value is what choosing that programme gives it")
  pub gain_at_start : (o : ℕ) → o < count s objects → grants s p o Gains ≡ false → (setting st o).gain ≡ (start_setting s p o).gain
  pub offset_at_start : (o : ℕ) → o < count s objects → grants s p o Offsets ≡ false → (setting st o).offset ≡ (start_setting s p o).offset
  -- "From an accepted opening on the same sheet 25 and 26 never come.": on the same sheet under the same list
  pub never_25 : (c : Call) → (reply s langs st c).answer ≡ Err NotAccepted → ⊥
  pub never_26 : (c : Call) → (reply s langs st c).answer ≡ Err Unsound → ⊥
  pub listing_never_25 : (words : ℕ) → listing_answer s langs st words ≡ Err NotAccepted → ⊥
  pub listing_never_26 : (words : ℕ) → listing_answer s langs st words ≡ Err Unsound → ⊥

-- the promises after a list of calls, at the programme of the last programme choice not refused, 0 if there is none
pub record Listening (s : Sheet) (langs : List ℕ) (calls : List Call) : Type 0 where
  pub opening_done : (opened s langs).answer ≡ Ok tt
  pub programme : (after s langs calls).programme ≡ last_chosen s langs calls
  pub promises : Promises s langs (last_chosen s langs calls) (after s langs calls)
