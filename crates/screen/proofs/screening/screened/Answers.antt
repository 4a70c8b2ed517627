-- Each table is as its pass leaves it; with right tables the rules are kept. Assumes nothing.
use Rattle.std.proofs.Common.{sym, ◌∙◌}
use Rattle.sheet.specs.Words.{sheet_of}
use Rattle.tables.specs.declared.Naming.TheVariants.{ContentObjects, Complements, ContentLists}
use Rattle.screen.proofs.NoughtLaws.{counts_made, named_made, spans_made}
use Rattle.screen.proofs.ScreenedLaws.{passed}
use Rattle.screen.proofs.screening.screened.Goals as goal

pub returns : goal.returns
returns c =
    λ e.
    let s = sheet_of c.args.s.now in let t = c.args.tables in
    let nought = c.requires in let tops = c.count_tops.ensures in let lists = c.count_lists.ensures in let contents = c.count_namings.ensures in
    let named_right = named_made s t.named.now c.count_tops.new.named c.count_lists.new.named nought.0 tops.2 lists.0 tops.3 lists.1 in
    let listed_right = counts_made s t.listed.now c.count_namings.new.table nought.2 contents.0 ContentLists contents.1 in
    let tops_right = counts_made s t.tops.now c.count_tops.new.tops nought.3 tops.0 ContentObjects tops.1 in
    let complements_right = counts_made s t.complements.now c.count_lists.new.complements nought.4 lists.2 Complements lists.3 in
    let spanned_right = spans_made s t.spanned.now c.count_lists.new.spanned nought.1 lists.4 lists.5 in
    let kept = c.records_and_totals_pass.ensures c.if-not-records_and_totals_pass.false (named_right, listed_right, (tops_right, complements_right)) spanned_right in
    passed s c.args.langs.now (sym c.rises.ensures ∙ c.if-not-rises.false) (c.header_passes.ensures c.if-not-header_passes.false) kept.records kept.set_once
    (c.programmes_pass.ensures.3 e (lists.7 nought.5)) kept.groups kept.tracks
