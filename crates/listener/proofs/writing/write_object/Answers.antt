-- An object's own tracks, then its children's. Assumes nothing.
use Prim.Native.Nat.{ℕ, ◌+◌}
use mathlib.Core.Path.{◌≡◌, sym, ap, ap₂, ◌∙◌}
use mathlib.Core.List.{List}
use native.Mathlib.Omega.{arith}
use lib.ListN.{length, length-append}
use lib.Seq.{sets, length-sets}
use Rattle.sheet.specs.Words.{Sheet, sheet_of}
use Rattle.listener.specs.steps.Tracks.{own_tracks, child_tracks, object_tracks}
use Rattle.listener.proofs.WrittenLaws.{sets_append}
use Rattle.listener.proofs.writing.write_object.Goals as goal

-- both together
both : (s : Sheet) (o : ℕ) → length (object_tracks s o) ≡ length (own_tracks s o) + length (child_tracks s o)
unfolding object_tracks
both s o = length-append (own_tracks s o) (child_tracks s o)

pub write_own-pos-requires : goal.write_own-pos-requires
write_own-pos-requires c = omega (arith, both (sheet_of c.args.s.now) c.args.o, c.requires)

pub write_children-requires : goal.write_children-requires
write_children-requires c =
    omega (arith, both (sheet_of c.args.s.now) c.args.o, c.requires, c.write_own-pos.ensures.0, ap length c.write_own-pos.ensures.1, length-sets c.args.buffer.now c.args.at (own_tracks (sheet_of c.args.s.now) c.args.o))

pub returns : goal.returns
unfolding object_tracks
returns c =
    let s = sheet_of c.args.s.now in
    let d = c.write_children.ensures in (
      omega (arith, both s c.args.o, c.write_own-pos.ensures.0, d.0),
      d.1
          ∙ ap₂ (λ (l : List ℕ) (k : ℕ). sets l k (child_tracks s c.args.o)) c.write_own-pos.ensures.1 c.write_own-pos.ensures.0
          ∙ sym (sets_append c.args.buffer.now c.args.at (own_tracks s c.args.o) (child_tracks s c.args.o)),
    )
