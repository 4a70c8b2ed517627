-- Pack, children, and the packs of children. Assumes nothing.
use Rattle.std.proofs.Common.{rules, not}
use Rattle.profile.specs.Relations.{has_objects_pack}
use Rattle.sheet.specs.Words.{sheet_of}
use Rattle.profile.specs.Rules.{rule13}
use Rattle.rules.proofs.objects.rule13.Goals as goal

pub returns : goal.returns
unfolding rule13
returns c = simp (c.any_entry.ensures (λ e. not (has_objects_pack (sheet_of c.args.s.now) e)) (λ e r l q. search rules), c.has_children-children.ensures, c.has_pack-pack.ensures)
