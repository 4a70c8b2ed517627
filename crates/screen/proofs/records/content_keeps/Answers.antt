-- A content that the table has is in a content list. Assumes nothing.
use Rattle.std.proofs.Common.{refl, sym, ◌∙◌, not}
use borrow.Author.Tests.{not-true}
use Rattle.sheet.specs.Words.{sheet_of}
use Rattle.profile.proofs.BoolLaws.{and_both}
use Rattle.screen.proofs.NoughtLaws.{listed_some}
use Rattle.screen.proofs.records.content_keeps.Goals as goal

pub returns : goal.returns
returns c =
    λ e right.
    let p = and_both (not c.content_breaks.result) c.flagged.result e in
    rw (c.content_breaks.ensures (not-true c.content_breaks.result p.0), listed_some (sheet_of c.args.s.now) c.args.listed.now c.args.k right (sym c.flagged.ensures ∙ p.1)) refl
