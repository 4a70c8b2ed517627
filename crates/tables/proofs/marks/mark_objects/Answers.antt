use Rattle.std.proofs.Common.{rules}
use Rattle.sheet.specs.Words.{sheet_of}
use Rattle.sheet.specs.Layout.{entry, reference}
use Rattle.tables.specs.steps.Namings.{item}
use Rattle.tables.specs.steps.Marks.{times_by}
use Rattle.tables.specs.declared.Naming.TheVariants.{Included}
use Rattle.tables.proofs.marks.mark_objects.Goals as goal

pub returns : goal.returns
unfolding times_by entry reference
returns g c =
    rw (c.entries-contents.ensures.list, c.at.ensures.count) at c.mark_each.ensures (item (sheet_of c.args.s.now) Included c.args.p) (λ i r b q. search rules)
