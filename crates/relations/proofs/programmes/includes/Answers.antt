-- The object of some content in the list. Assumes nothing.
use Rattle.std.proofs.Common.{rules, eqb}
use Rattle.profile.specs.Relations.{includes}
use Rattle.sheet.specs.Fields.{contents, content_object}
use Rattle.sheet.specs.Layout.{field}
use Rattle.sheet.specs.Words.{sheet_of}
use Rattle.relations.proofs.programmes.includes.Goals as goal

pub returns : goal.returns
unfolding includes
returns c = c.any_entry.ensures (λ e. eqb (field (sheet_of c.args.s.now) contents e content_object) c.args.o) (λ e r l q. search rules)
