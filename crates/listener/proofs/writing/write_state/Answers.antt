use Prim.Native.Nat.{ℕ, ◌<◌}
use mathlib.Core.Path.{◌≡◌, refl, sym, ◌∙◌}
use mathlib.Core.Bool.{true, false}
use mathlib.Core.List.{[]}
use lib.ListN.{get_or}
use native.Mathlib.Nat.{add-zero}
use native.Mathlib.Omega.{arith}
use Rattle.sheet.specs.Words.{Sheet, sheet_of}
use Rattle.listener.specs.declared.State.{State}
use Rattle.listener.specs.State.{state_objects, blank}
use Rattle.listener.specs.steps.Tracks.{object_tracks, tracks_when, state_tracks}
use Rattle.listener.proofs.WrittenLaws.{written_none, written_more, room, written_all}
use Rattle.listener.proofs.StepLaws.{element_active}
use Rattle.listener.proofs.writing.write_state.Goals as goal
use Rattle.listener.proofs.writing.write_state.Goals.{then-state-from, else-state-from}

module _ (s : Sheet) (st : State) (o : ℕ) (l : o < state_objects) where
  on : (get_or st.objects o blank).active ≡ true → tracks_when s st o ≡ object_tracks s o
  unfolding tracks_when
  on e = rw (sym (element_active st o l) ∙ e) refl

  off : (get_or st.objects o blank).active ≡ false → tracks_when s st o ≡ []
  unfolding tracks_when
  off e = rw (sym (element_active st o l) ∙ e) refl

pub loop-o-init : goal.loop-o-init
loop-o-init c = written_none _ _ _ _

pub write_object-pos-requires : goal.write_object-pos-requires
unfolding state_tracks
write_object-pos-requires c =
    let l = c.loop-o in let i = c.loop-o-test.true in rw (← on (sheet_of c.args.s.now) c.args.state.now l.o i (rw c.from.ensures at c.if-state-from.true)) (room l.invariant i (omega (arith, c.requires)))

pub loop-o-preserved : goal.loop-o-preserved
loop-o-preserved c =
    let l = c.loop-o in let i = c.loop-o-test.true in let s = sheet_of c.args.s.now in let st = c.args.state.now in
    written_more l.invariant c.if-state-from.buffer c.if-state-from.pos i
    (elim c.if-state-from.branch [
      | then-state-from w ↦ rw (on s st l.o i (rw c.from.ensures at w.if-state-from.true)) (w.pos-is ∙ w.write_object-pos.ensures.0)
      | else-state-from w ↦ rw (off s st l.o i (rw c.from.ensures at w.if-state-from.false)) (w.pos-is ∙ sym (add-zero _))
    ])
    (elim c.if-state-from.branch [
      | then-state-from w ↦ rw (on s st l.o i (rw c.from.ensures at w.if-state-from.true)) (w.buffer-is ∙ w.write_object-pos.ensures.1)
      | else-state-from w ↦ rw (off s st l.o i (rw c.from.ensures at w.if-state-from.false)) w.buffer-is
    ])

pub returns : goal.returns
unfolding state_tracks
returns c = (written_all c.loop-o.invariant (omega arith)).1
