use Prim.Native.Nat.{ℕ, ◌<◌}
use mathlib.Core.Path.{sym, ap, ap₂, ◌∙◌}
use native.Mathlib.Omega.{arith}
use borrow.Author.Count.{below_none}
use lib.ListN.{length, length-replicate}
use Rattle.profile.specs.Counting.{any, two_of}
use Rattle.profile.specs.Relations.{leader_of, owner, named_set}
use Rattle.profile.specs.Rules.{sets_differ}
use Rattle.profile.proofs.SumLaws.{any_one, any_nowhere}
use Rattle.sheet.specs.Layout.{number, entry}
use Rattle.sheet.specs.Fields.{programmes, set_list}
use Rattle.sheet.specs.Words.{sheet_of}
use Rattle.rules.proofs.DifferLaws.{differ, firsts_none, firsts_next, found_next}
use Rattle.rules.proofs.repeats.differ_from_first.Goals as goal

pub loop-j-init : goal.loop-j-init
loop-j-init c =
    let a = c.args in let s = sheet_of a.s.now in
    (length-replicate {A = ℕ} 2048 0, λ right. (firsts_none s (named_set s a.p) (λ i. leader_of s (owner s (named_set s a.p i))) 2048, below_none _))

pub returns-then-sets_differ : goal.returns-then-sets_differ
unfolding two_of named_set entry
returns-then-sets_differ c =
    let a = c.args in let s = sheet_of a.s.now in
    let e = named_set s a.p in let g : ℕ → ℕ = λ i. leader_of s (owner s (e i)) in let l = c.loop-j in let set = c.named_set-v.ensures in let lead = c.leader_of_set-l in let place = c.first_of-i in let inside : lead.result < length l.first = omega (arith, l.invariant.0, c.if-l-ge2048.false) in
    let test = sym (c.sets_differ.ensures ∙ ap₂ (sets_differ s) c.named_set.ensures set) in
    let below : l.j < number s programmes a.p set_list = omega (arith, c.loop-j-test.true, c.number-n.ensures) in
    λ right. sym (any_one (λ m. any (λ i. differ s e g i m) m) _ l.j below (found_next s e g l.first l.j lead.result place.result (l.invariant.1 right).0 (lead.ensures right ∙ ap (λ v. leader_of s (owner s v)) set) inside place.ensures.0 (l.invariant.1 right).1 (test ∙ c.if-sets_differ.true)))

pub loop-j-preserved : goal.loop-j-preserved
loop-j-preserved c =
    let a = c.args in let s = sheet_of a.s.now in
    let e = named_set s a.p in let g : ℕ → ℕ = λ i. leader_of s (owner s (e i)) in let l = c.loop-j in let set = c.named_set-v.ensures in let lead = c.leader_of_set-l in let place = c.first_of-i in let inside : lead.result < length l.first = omega (arith, l.invariant.0, c.if-l-ge2048.false) in
    let test = sym (c.sets_differ.ensures ∙ ap₂ (sets_differ s) c.named_set.ensures set) in
    (place.array_long, λ right. firsts_next s e g l.first l.j lead.result place.result (l.invariant.1 right).0 (lead.ensures right ∙ ap (λ v. leader_of s (owner s v)) set) inside place.ensures.0 (l.invariant.1 right).1 (test ∙ c.if-sets_differ.false) place.new.first (place.array_long ∙ sym l.invariant.0) place.ensures.1)

pub returns : goal.returns
unfolding two_of named_set entry
returns c =
    let a = c.args in let s = sheet_of a.s.now in let e = named_set s a.p in let g : ℕ → ℕ = λ i. leader_of s (owner s (e i)) in
    λ right. sym (any_nowhere (λ m. any (λ i. differ s e g i m) m) (number s programmes a.p set_list) (λ m l. (c.loop-j.invariant.1 right).1 m (omega (arith, l, c.loop-j-test.false, c.number-n.ensures))))
