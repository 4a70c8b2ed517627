-- As many as its channels, of its pack, each ordinal once. Assumes nothing.
use Rattle.std.proofs.Common.{rules}
use Prim.Native.Nat.{ℕ, ◌+◌, ◌<◌}
use mathlib.Core.Path.{◌≡◌, sym, ap, ap₂, ◌∙◌}
use mathlib.Core.Bool.{Bool, true, false, cond, not, ◌||◌}
use native.Mathlib.Omega.{arith}
use borrow.Author.Tests.{eq-eqb, ne_eqb, ltb-true, leb-true}
use lib.Dec.{eqb}
use Rattle.sheet.specs.Words.{sheet_of}
use Rattle.sheet.specs.Layout.{field, number, entry}
use Rattle.sheet.specs.Fields.{objects, packs, tracks, track_list, track_pack, pack_channels}
use Rattle.profile.specs.Counting.{any, how_many}
use Rattle.profile.specs.Rules.{rule14}
use Rattle.profile.specs.Relations.{has_children, pack_of, channels, track_at}
use Rattle.runs.specs.steps.Runs.{pack_at, ordinal_at, odd_tracks}
use Rattle.runs.proofs.RunLaws.{all_three}
use Rattle.rules.specs.steps.Loops.{bad_channel}
use Rattle.rules.proofs.objects.rule14.Goals as goal

-- an object with tracks has no children
with_pack : (b : Bool) (n x : ℕ) → n ≡ cond b 0 x → 0 < n → x ≡ n
with_pack true n x e l = absurd (omega (arith, e, l))
with_pack false n x e l = sym e

pub returns-then-tracks-channels : goal.returns-then-tracks-channels
unfolding rule14
returns-then-tracks-channels c = λ next again. simp (ne_eqb _ _ (λ q. c.if-tracks-channels.true (c.at-tracks.ensures.count ∙ q ∙ sym c.channels.ensures)))

pub returns-then-tracks-inside : goal.returns-then-tracks-inside
unfolding rule14 odd_tracks track_at entry channels
returns-then-tracks-inside c =
    let a = c.args in let s = sheet_of a.s.now in
    let first = field s objects a.o track_list in let n = number s objects a.o track_list in let tracks' = c.at-tracks in let pack = c.pack_of in let tested = all_three _ _ _ c.if-tracks-inside.true in
    let in_next = all_three _ _ _ (sym c.inside.ensures ∙ tested.1) in
    let in_again = all_three _ _ _ (sym c.inside-2.ensures ∙ tested.2) in
    let e : n ≡ channels s a.o = sym tracks'.ensures.count ∙ c.if-tracks-channels.false ∙ c.channels.ensures in
    let full = ap (λ (p : ℕ). field s packs p pack_channels) pack.ensures ∙ with_pack (has_children s a.o) tracks'.result.count (field s packs (pack_of s a.o) pack_channels) (tracks'.ensures.count ∙ e) (ltb-true _ _ tested.0) in
    λ next again. rw (eq-eqb _ _ e)
    (c.odd_tracks.ensures next again (ltb-true _ _ in_next.0) (ltb-true _ _ in_again.0) (leb-true _ _ in_next.2) full
    ∙ ap₂ (λ (i m : ℕ). odd_tracks s i m pack.result) tracks'.ensures.first tracks'.ensures.count
    ∙ ap (odd_tracks s first n) pack.ensures
    ∙ ap (λ (m : ℕ). any (λ i. not (eqb (pack_at s (first + i)) (pack_of s a.o))) n || any (λ k. not (eqb (how_many (λ i. eqb (ordinal_at s (first + i)) k) n) 1)) m) e)

pub returns : goal.returns
unfolding rule14 bad_channel track_at
returns c =
    let s = sheet_of c.args.s.now in let tracks' = c.at-tracks in let channels' = c.channels in let if1 = c.if-tracks-channels in λ next again. let e = (sym tracks'.ensures.count ∙ if1.false ∙ channels'.ensures) in simp (eq-eqb _ _ e, c.any_entry.ensures (λ t. not (eqb (field s tracks t track_pack) c.pack_of-pack.result)) (λ t r l q. search rules), c.pack_of-pack.ensures, c.bad_ordinals.ensures e)
