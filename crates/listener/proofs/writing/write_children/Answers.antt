use Prim.Native.Nat.{ℕ, ◌+◌}
use native.Mathlib.Omega.{arith}
use mathlib.Core.Path.{ap, ◌∙◌}
use lib.ListN.{length}
use lib.Seq.{sets}
use Rattle.sheet.specs.Words.{sheet_of}
use Rattle.listener.specs.steps.Tracks.{own_tracks, child_tracks}
use Rattle.listener.proofs.WrittenLaws.{written_none, written_more, room, written_all}
use Rattle.listener.proofs.writing.write_children.Goals as goal

pub loop-i-init : goal.loop-i-init
loop-i-init c = written_none _ _ _ _

pub write_own-pos-requires : goal.write_own-pos-requires
unfolding child_tracks
write_own-pos-requires c = rw c.entry.ensures (room c.loop-i.invariant c.loop-i-test.true (rw c.number-i-end.ensures c.requires))

pub loop-i-preserved : goal.loop-i-preserved
loop-i-preserved c =
    let w = c.write_own-pos.ensures in let e = c.entry.ensures in let l = c.loop-i in let s = sheet_of c.args.s.now in
    written_more l.invariant _ _ c.loop-i-test.true (w.0 ∙ ap (λ (x : ℕ). l.pos + length (own_tracks s x)) e) (w.1 ∙ ap (λ (x : ℕ). sets l.buffer l.pos (own_tracks s x)) e)

pub returns : goal.returns
unfolding child_tracks
returns c = rw (← c.number-i-end.ensures) (written_all c.loop-i.invariant (omega arith))
