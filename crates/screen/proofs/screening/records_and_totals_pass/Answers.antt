-- The records, the value sets, the whole sheet. Assumes nothing.
use Rattle.std.proofs.Common.{sym}
use borrow.Author.Tests.{not-true}
use Rattle.sheet.specs.Words.{sheet_of}
use Rattle.screen.proofs.NoughtLaws.{spanned_once}
use Rattle.screen.proofs.screening.records_and_totals_pass.Goals as goal

pub returns : goal.returns
returns c =
    λ e tabled spans.
    let once = c.all_once.ensures c.if-not-all_once.false in
    let sums = c.totals_break.ensures (not-true c.totals_break.result e) tabled.2 in
    record {
      records = c.records_pass.ensures c.if-not-records_pass.false tabled;
      set_once = λ v l. let h = once v (rw (sym c.count.ensures) at l) in spanned_once (sheet_of c.args.s.now) c.args.spanned.now v spans h.0 h.1;
      groups = sums.0;
      tracks = sums.1;
    }
