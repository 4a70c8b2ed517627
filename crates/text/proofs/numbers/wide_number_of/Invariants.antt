-- The digits passed stand in the number so far, those left in the text's rest. Assumes nothing.
use Prim.Native.Nat.{◌<◌, ◌≤◌}
use mathlib.Core.Path.{◌≡◌}
use lib.ListN.{length, drop}
use Rattle.text.specs.Numbers.{digits, value}
use Rattle.text.proofs.numbers.wide_number_of.Given as goal

abbrev pub invariant-loop-byte : goal.invariant-loop-byte
invariant-loop-byte l =
    (0 < length l.text) × (l.n ≤ 4294967295) × (value l.n (drop l.byte-index l.text) ≡ value 0 l.text) × (digits (drop l.byte-index l.text) ≡ digits l.text)
