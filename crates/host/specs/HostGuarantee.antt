-- Demand 3 for the listing that a player calls: "for a sheet that opens" and a programme that it has. The record has a field for each promise;
-- `host_listening` in proofs/HostGuaranteed.antt makes it. Assumes nothing.
use Rattle.std.specs.Prelude.{ℕ, ◌+◌, ◌*◌, ◌<◌, ◌≤◌, ◌≡◌, true, List, pos, length, get_or, drop}
use Rattle.sheet.specs.Words.{Sheet}
use Rattle.sheet.specs.Layout.{level, count, field}
use Rattle.sheet.specs.Fields.{objects, packs, tracks, pack_channels}
use Rattle.profile.specs.Counting.{how_many}
use Rattle.profile.specs.Relations.{pack_of, has_pack, leader, member, members, wholly_included}
use Rattle.listener.specs.Programme.{started}
use Rattle.listener.specs.Listing.{sounds, entries}
use Rattle.listener.specs.StartListing.{start_tracks, start_number}
use Rattle.guarantee.specs.Guarantee.{most_entries, how_many_in, is_channel}
use Rattle.host.specs.HostListing.{host_listed, host_buffered}

-- the track that stands at place i of the bytes: two bytes, high first
unfoldable pub track_of : List ℕ → ℕ → ℕ
track_of bytes i = 256 * get_or bytes (2 * i) 0 + get_or bytes (2 * i + 1) 0

pub record HostListening (s : Sheet) (langs : List ℕ) (p : ℕ) : Type 0 where
  -- with enough bytes, two for each entry, the number of entries is given: 1 to 16 (28)
  pub number_given : (bytes : ℕ) → 2 * start_number s p ≤ bytes → host_listed s langs p bytes ≡ pos (start_number s p)
  pub at_least_one : 1 ≤ start_number s p
  pub at_most_lem : start_number s p ≤ most_entries (level s)
  -- the tracks written are those of the programme's start, in the listing's order, each a track of the sheet; later bytes stay
  pub tracks_written : (buffer : List ℕ) → 2 * start_number s p ≤ length buffer
      → (i : ℕ) → i < start_number s p → track_of (host_buffered s langs p buffer) i ≡ get_or (start_tracks s p) i 0
  pub tracks_exist : (buffer : List ℕ) → 2 * start_number s p ≤ length buffer
      → (i : ℕ) → i < start_number s p → track_of (host_buffered s langs p buffer) i < count s tracks
  pub later_stay : (buffer : List ℕ) → 2 * start_number s p ≤ length buffer
      → drop (2 * start_number s p) (host_buffered s langs p buffer) ≡ drop (2 * start_number s p) buffer
  -- exactly one member of each wholly included group sounds
  pub one_sounds : (l : ℕ) → l < count s objects → leader s l ≡ true → wholly_included s p l ≡ true
      → how_many (λ i. sounds s (started s p) (member s l i)) (members s l) ≡ 1
  -- each sounding object with a pack has each channel of it exactly once among its own entries
  pub channels_once : (o : ℕ) → o < count s objects → sounds s (started s p) o ≡ true → has_pack s o ≡ true
      → (n : ℕ) → n < field s packs (pack_of s o) pack_channels → how_many_in (is_channel s o n) (entries s (started s p)) ≡ 1
