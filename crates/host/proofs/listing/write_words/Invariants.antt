-- The words passed are written, two bytes each. Assumes nothing.
use Prim.Native.Nat.{◌*◌}
use lib.ListN.{length, get_or}
use Rattle.listener.proofs.WrittenLaws.{Written}
use Rattle.host.specs.HostListing.{two_bytes}
use Rattle.host.proofs.listing.write_words.Given as goal

abbrev pub invariant-loop-i : goal.invariant-loop-i
invariant-loop-i l = Written (λ j. two_bytes (get_or l.words j 0)) (length l.words) 0 l.initial.buffer l.buffer (2 * l.i) l.i
