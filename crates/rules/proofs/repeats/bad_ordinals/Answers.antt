-- By ordinals that are too high or alike. Assumes nothing.
use Rattle.std.proofs.Common.{rules}
use Prim.Native.Nat.{ℕ}
use mathlib.Core.Path.{sym, ap, ap₂, ◌∙◌}
use mathlib.Core.Bool.{Bool, not, ◌||◌}
use lib.Dec.{eqb, leb}
use Rattle.profile.specs.Counting.{any, how_many}
use Rattle.profile.specs.Relations.{track_at}
use Rattle.sheet.specs.Fields.{objects, tracks, track_list, track_ordinal}
use Rattle.sheet.specs.Layout.{field, number}
use Rattle.sheet.specs.Words.{sheet_of}
use Rattle.rules.specs.steps.Loops.{bad_channel, keys_alike}
use Rattle.runs.proofs.OrdinalLaws.{once_each}
use Rattle.rules.proofs.repeats.bad_ordinals.Goals as goal

pub returns : goal.returns
unfolding bad_channel keys_alike track_at
returns c =
    let a = c.args in let s = sheet_of a.s.now in let n = number s objects a.o track_list in
    let f : ℕ → ℕ = λ i. field s tracks (track_at s a.o i) track_ordinal in
    let past = c.any_entry.ensures (λ t. leb c.number-n.result (field s tracks t track_ordinal)) (λ t r l q. search rules) ∙ ap (λ (m : ℕ). any (λ i. leb m (f i)) n) c.number-n.ensures in
    λ e. ap₂ (λ (a b : Bool). a || b) past (c.alike.ensures (λ t. field s tracks t track_ordinal) (λ t r l q. search rules)) ∙ sym (once_each f n) ∙ ap (any (λ h. not (eqb (how_many (λ i. eqb (f i) h) n) 1))) e
