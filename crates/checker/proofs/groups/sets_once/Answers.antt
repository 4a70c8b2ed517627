-- By the counts of the spans. Assumes nothing.
use lib.ListN.{replicate}
use Rattle.sheet.specs.Words.{sheet_of}
use Rattle.tables.proofs.MarkLaws.{nought}
use Rattle.checker.proofs.GroupLaws as laws
use Rattle.screen.proofs.NoughtLaws.{spans_made}
use Rattle.checker.proofs.groups.sets_once.Goals as goal

pub returns : goal.returns
returns c =
    λ e. laws.sets_once (sheet_of c.args.s.now) c.count_namings.new.table (spans_made (sheet_of c.args.s.now) (replicate 4680 0) c.count_namings.new.table (λ x l. nought 4680 x) c.count_namings.ensures.0 c.count_namings.ensures.1) (λ v l. c.all_once.ensures e v (rw c.count.ensures l))
