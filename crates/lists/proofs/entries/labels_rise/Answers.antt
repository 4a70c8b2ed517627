use Rattle.std.proofs.Common.{◌<◌, refl, sym, not, leb}
use native.Mathlib.Numerals.{add-one}
use borrow.Author.Tests.{leb-false}
use Rattle.sheet.specs.Words.{sheet_of}
use Rattle.profile.specs.Counting.{any}
use Rattle.profile.proofs.BoolLaws.{or_none}
use Rattle.lists.specs.steps.Entries.{entry_at, no_language_at, same_at}
use Rattle.lists.proofs.RisingLaws.{below_more, not_earlier}
use Rattle.lists.proofs.entries.labels_rise.Goals as goal

pub loop-i-preserved : goal.loop-i-preserved
unfolding any no_language_at same_at entry_at
loop-i-preserved c =
    let l = c.loop-i in let a = c.args in let entry = entry_at (sheet_of a.s.now) a.entries.base a.entries.list.first in
    let x = c.at-x in let p = or_none (leb x.result l.last) (not c.good.result) c.if-x-last.false in
    let h : l.last < entry l.i = rw x.ensures at (leb-false x.result l.last p.0) in (
      rw x.ensures (below_more entry l.i l.last l.invariant.0 h),
      rw (add-one, l.invariant.1, sym x.ensures, sym c.good.ensures, p.1) refl,
      rw (add-one, l.invariant.2, not_earlier entry l.i l.last l.invariant.0 h) refl,
    )
