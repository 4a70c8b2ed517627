-- The start of a programme lists no more than the most entries at its sheet's level: what the host's words need. Assumes nothing.
use Prim.Native.Nat.{ℕ, ◌≤◌}
use mathlib.Core.Path.{◌≡◌}
use mathlib.Core.Bool.{true, false}
use mathlib.Core.List.{List}
use native.Mathlib.Nat.{le_trans}
use borrow.Author.Tests.{leb-false}
use lib.Dec.{leb}
use Rattle.sheet.specs.Words.{Sheet}
use Rattle.sheet.specs.Layout.{level, count}
use Rattle.sheet.specs.Fields.{programmes}
use Rattle.listener.specs.Programme.{started}
use Rattle.listener.specs.Calls.{opens}
use Rattle.listener.specs.StartListing.{start_number}
use Rattle.guarantee.specs.Guarantee.{most_entries}
use Rattle.guarantee.proofs.OpenLaws.{accepted_opened, few_objects, most_counted}
use Rattle.guarantee.proofs.SoundLaws.{start_sound}
use Rattle.guarantee.proofs.ListingLaws.{listing_most}

pub start_most : (s : Sheet) (langs : List ℕ) (p : ℕ) → opens s langs ≡ true → leb (count s programmes) p ≡ false → start_number s p ≤ most_entries (level s)
unfolding start_number
start_most s langs p e f =
    let a = accepted_opened s langs e in
    let few = few_objects s langs e in
    le_trans (listing_most s a few (started s p) (start_sound s a few p (leb-false _ _ f))) (most_counted s langs e)
