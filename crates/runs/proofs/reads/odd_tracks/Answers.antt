-- No track, or the first one and what the tables tell of the others. Assumes nothing.
use Prim.Native.Nat.{◌-◌, ◌<◌}
use mathlib.Core.Path.{refl, ◌∙◌}
use native.Mathlib.Omega.{arith}
use Rattle.sheet.specs.Words.{sheet_of}
use Rattle.sheet.specs.Layout.{field}
use Rattle.sheet.specs.Fields.{packs, pack_channels}
use Rattle.runs.specs.steps.Runs.{pack_at, ordinal_at, odd_tracks}
use Rattle.runs.proofs.TrackLaws.{tracks_run}
use Rattle.profile.specs.Counting.{any}
use Rattle.runs.proofs.reads.odd_tracks.Goals as goal

pub returns-then-list-eq0 : goal.returns-then-list-eq0
unfolding odd_tracks any
returns-then-list-eq0 c = λ strays ordinals a b l full. rw c.if-list-eq0.true refl

pub returns : goal.returns
unfolding odd_tracks
returns c =
    let a' = c.args in let if1 = c.if-list-eq0 in let reference = c.reference-e in let s = sheet_of a'.s.now in
    λ strays ordinals a b l full. let some : 0 < a'.list.count = omega (arith, if1.false) in rw (c.field.ensures, c.field-2.ensures, reference.ensures, c.from.ensures) (tracks_run (pack_at s) (ordinal_at s) (λ q. field s packs q pack_channels) a'.list.first a'.pack a'.list.count (a'.list.count - 1) (omega (arith, some)) full c.among.result c.among-2.result (c.among.ensures a ∙ strays a'.list.first a (omega (arith, some, l)) (a'.list.count - 1) (omega (arith, l))) (c.among-2.ensures b ∙ ordinals a'.list.first b (omega (arith, some, l)) a'.list.count l))
