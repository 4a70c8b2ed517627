use Prim.Native.Nat.{ℕ, ◌<◌}
use mathlib.Core.Path.{◌≡◌, sym, ap, ◌∙◌}
use mathlib.Core.Bool.{false}
use native.Mathlib.Omega.{arith}
use borrow.Author.Count.{below_none, below_more}
use lib.Dec.{eqb}
use lib.ListN.{length-replicate}
use Rattle.profile.specs.Counting.{any, two_of}
use Rattle.profile.proofs.SumLaws.{any_one, any_nowhere}
use Rattle.sheet.specs.Layout.{number, entry}
use Rattle.sheet.specs.Words.{sheet_of}
use Rattle.rules.specs.steps.Loops.{keys_alike}
use Rattle.rules.proofs.SeenLaws.{seen_none, seen_more, seen_next}
use Rattle.rules.proofs.repeats.keys_alike.Goals as goal

pub loop-j-init : goal.loop-j-init
loop-j-init g c = (length-replicate {A = ℕ} 65536 0, λ f h. (seen_none _ 65536, below_none _))

pub returns-then-see : goal.returns-then-see
unfolding keys_alike two_of
returns-then-see g c =
    let a = c.args in let s = sheet_of a.s.now in let l = c.loop-j in let see = c.see in
    let below : l.j < number s a.section a.k a.at = omega (arith, c.loop-j-test.true, c.number-j-end.ensures) in
    λ f h.
    let e : ℕ → ℕ = λ i. f (entry s a.section a.k a.at i) in
    let same : c.key.result ≡ e l.j = h c.entry.result c.key.result c.entry.type_inv c.key.ensures ∙ ap f c.entry.ensures in
    sym (any_one (λ m. any (λ i. eqb (e i) (e m)) m) _ l.j below (seen_next e l.seen l.j c.key.result (l.invariant.1 f h).0 same (omega (arith, l.invariant.0)) see.result see.ensures.0 ∙ c.if-see.true))

pub loop-j-preserved : goal.loop-j-preserved
loop-j-preserved g c =
    let a = c.args in let s = sheet_of a.s.now in let l = c.loop-j in let see = c.see in (
      see.array_long,
      λ f h.
          let e : ℕ → ℕ = λ i. f (entry s a.section a.k a.at i) in
          let same : c.key.result ≡ e l.j = h c.entry.result c.key.result c.entry.type_inv c.key.ensures ∙ ap f c.entry.ensures in
          let next = seen_next e l.seen l.j c.key.result (l.invariant.1 f h).0 same (omega (arith, l.invariant.0)) see.result see.ensures.0 in
          (seen_more e l.seen l.j c.key.result (l.invariant.1 f h).0 same see.new.seen (see.array_long ∙ sym l.invariant.0) see.ensures.1, below_more (λ m. any (λ i. eqb (e i) (e m)) m ≡ false) l.j (l.invariant.1 f h).1 (next ∙ c.if-see.false)),
    )

pub returns : goal.returns
unfolding keys_alike two_of
returns g c =
    let a = c.args in let s = sheet_of a.s.now in
    λ f h.
    let e : ℕ → ℕ = λ i. f (entry s a.section a.k a.at i) in
    sym (any_nowhere (λ m. any (λ i. eqb (e i) (e m)) m) (number s a.section a.k a.at) (λ m l. (c.loop-j.invariant.1 f h).1 m (omega (arith, l, c.loop-j-test.false, c.number-j-end.ensures))))
