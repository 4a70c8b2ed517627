use Rattle.std.proofs.Common.{ℕ, ◌-◌, ◌<◌, ◌≡◌, false, eqb, ltb, not, get_or, sym, ap, ◌∙◌, arith}
use native.Mathlib.Numerals.{add-one}
use native.Mathlib.Nat.{add-zero}
use borrow.Author.Count.{below_more}
use Rattle.sheet.specs.Words.{sheet_of}
use Rattle.profile.specs.Counting.{how_many}
use Rattle.profile.specs.Rules.{sets_differ}
use Rattle.profile.proofs.BoolLaws.{byte_cond, byte_le}
use Rattle.inclusion.specs.steps.Groups.{listed_in}
use Rattle.inclusion.proofs.PassLaws.{all_whole}
use Rattle.inclusion.proofs.groups.members_kept.Goals as goal

pub loop-i-init : goal.loop-i-init
unfolding how_many
loop-i-init c =
    let e = c.args.e in (
      omega (arith, c.from-many.ensures, byte_le (not (eqb e 0))),
      omega (arith, c.from-noted.ensures, byte_le (ltb 1 e)),
      c.from-many.ensures ∙ byte_cond (not (eqb e 0)) ∙ sym (add-zero _),
      c.from-noted.ensures ∙ byte_cond (ltb 1 e) ∙ sym (add-zero _),
      λ at k i l. absurd (omega arith),
    )

pub loop-i-preserved : goal.loop-i-preserved
unfolding how_many
loop-i-preserved c =
    let a = c.args in let before = c.loop-i.invariant in let read = c.at-c in let word = c.at in let had : ℕ → ℕ = listed_in (sheet_of a.s.now) a.included.now a.others.base a.others.list.first in
    let many = c.from-many-in-loop-i.ensures in let noted = c.from-noted-in-loop-i.ensures in (
      omega (arith, before.0, many, byte_le (not (eqb read.result 0))),
      omega (arith, before.1, noted, byte_le (ltb 1 read.result)),
      rw (add-one, many, byte_cond (not (eqb read.result 0)), before.2, read.ensures, word.ensures) (omega arith),
      rw (add-one, noted, byte_cond (ltb 1 read.result), before.3, read.ensures, word.ensures) (omega arith),
      λ at k.
          below_more (λ j. 1 < had j → sets_differ (sheet_of a.s.now) (a.e - 2) (had j - 2) ≡ false) c.loop-i.i (before.4 at k)
          (λ l.
          let z = read.ensures ∙ ap (λ (x : ℕ). get_or a.included.now x 0) word.ensures in
          rw (sym z) (c.noted_differ.ensures c.if-noted_differ.false at k (rw z l))),
    )

pub returns : goal.returns
returns c =
    let here = c.loop-i in let z : here.i ≡ c.args.others.list.count = omega arith in
    λ e at. record { whole = all_whole _ _ _ (rw (here.invariant.2, here.invariant.3, z, c.from-all.ensures, add-one) at e); agreeing = rw z at (here.invariant.4 at) }
