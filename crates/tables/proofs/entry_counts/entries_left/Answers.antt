use Rattle.std.proofs.Common.{suc, ◌≤◌, arith}
use native.Mathlib.Numerals.{add-one}
use borrow.Author.Tests.{lt-leb}
use Rattle.profile.specs.Counting.{sum}
use Rattle.tables.proofs.TableLaws.{sum_below}
use Rattle.tables.proofs.entry_counts.entries_left.Goals as goal

pub loop-k-init : goal.loop-k-init
unfolding sum
loop-k-init g c = λ f h. (omega arith, omega arith)

pub loop-k-preserved : goal.loop-k-preserved
unfolding sum
loop-k-preserved g c = λ f h.
    let l = c.loop-k in let before = l.invariant f h in let e = h l.k c.entries.result c.loop-k-test.true c.entries.ensures in
    rw add-one (omega (arith, before.0, before.1, e, c.in_ok-left.ensures), omega (arith, before.0, before.1, e, c.in_ok-left.ensures))

pub returns-in_err-left : goal.returns-in_err-left
unfolding sum
returns-in_err-left g c = λ f h.
    let l = c.loop-k in let n = c.args.n in let next : suc l.k ≤ n = c.loop-k-test.true in
    let before = l.invariant f h in let e = h l.k c.entries.result c.loop-k-test.true c.entries.ensures in
    let none = rw c.in_err-left.was at c.checked_sub.ensures in
    rw (lt-leb (sum f n) c.args.most (omega (arith, before.0, before.1, e, none, sum_below f (suc l.k) n next))) c.from_residual.ensures
