use Prim.Native.Nat.{ℕ, ◌+◌, ◌<◌, ◌≤◌}
use mathlib.Core.Path.{◌≡◌, sym, ap, ◌∙◌}
use lib.Seq.{sets}
use native.Mathlib.Omega.{arith}
use lib.ListN.{length, set}
use mathlib.Core.List.{List, [], ◌∷◌}
use Rattle.sheet.specs.Words.{Sheet}
use Rattle.sheet.specs.Layout.{number}
use Rattle.sheet.specs.Fields.{objects, track_list}
use Rattle.profile.specs.Counting.{tabulate}
use Rattle.profile.specs.Relations.{track_at}
use Rattle.listener.specs.steps.Tracks.{own_tracks}
use Rattle.listener.proofs.WrittenLaws.{Written, written_none, written_more, room, written_all}
use Rattle.listener.proofs.writing.write_own.Goals as goal

-- there is room for the next track
room_left : (s : Sheet) (o n from : ℕ) (out₀ out : List ℕ) (pos k : ℕ) → Written (λ j. track_at s o j ∷ []) n from out₀ out pos k → k < n → n ≡ number s objects o track_list → from + length (own_tracks s o) ≤ length out₀ → pos < length out
unfolding own_tracks tabulate
room_left s o n from out₀ out pos k w l e q = omega (arith, room w l (rw e q))

-- all are written
all_written : (s : Sheet) (o n from : ℕ) (out₀ out : List ℕ) (k : ℕ) → Written (λ j. track_at s o j ∷ []) n from out₀ out (from + k) k → k ≡ n → n ≡ number s objects o track_list
    → (from + n ≡ from + length (own_tracks s o)) × (out ≡ sets out₀ from (own_tracks s o))
unfolding own_tracks tabulate
all_written s o n from out₀ out k w e f = let t = written_all w e in rw (← f) (ap (λ (j : ℕ). from + j) (sym e) ∙ t.0, t.1)

pub loop-i-init : goal.loop-i-init
loop-i-init c = let z : c.args.at + 0 ≡ c.args.at = omega arith in rw z (written_none _ _ _ _)

pub bounds-buffer-at : goal.bounds-buffer-at
bounds-buffer-at c = omega (arith, room_left _ _ _ _ _ _ _ _ c.loop-i.invariant c.loop-i-test.true c.number-n.ensures c.requires)

pub loop-i-preserved : goal.loop-i-preserved
unfolding track_at
loop-i-preserved c = let l = c.loop-i in written_more l.invariant _ _ c.loop-i-test.true (omega arith) (rw c.from.ensures (ap (λ (x : ℕ). set l.buffer (c.args.at + l.i) x) c.entry.ensures))

pub returns : goal.returns
returns c = rw c.from-2.ensures (all_written _ _ _ _ _ _ _ c.loop-i.invariant (omega arith) c.number-n.ensures)
