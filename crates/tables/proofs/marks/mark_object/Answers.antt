-- The one object of the content. Assumes nothing.
use mathlib.Core.Path.{◌∙◌}
use lib.Dec.{eqb}
use lib.ListN.{get_or}
use Rattle.sheet.specs.Words.{sheet_of}
use Rattle.sheet.specs.Layout.{field}
use Rattle.sheet.specs.Fields.{contents, content_object}
use Rattle.profile.specs.Counting.{how_many}
use Rattle.tables.specs.steps.Marks.{repeat, times_by}
use Rattle.tables.proofs.MarkLaws.{repeat_more}
use Rattle.tables.proofs.marks.mark_object.Goals as goal

pub returns : goal.returns
unfolding times_by how_many repeat
returns g c = λ f h.
    let a = c.args in let at = rw (c.from.ensures, c.field.ensures) at c.mark_at.ensures f h in
    (at.0, λ x l. at.1 x l ∙ repeat_more f (λ i. eqb (field (sheet_of a.s.now) contents a.q content_object) x) 0 (get_or a.table.now x 0))
