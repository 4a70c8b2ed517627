-- Under a list that rises, or not. Assumes nothing.
use mathlib.Core.Path.{sym, ◌∙◌}
use Rattle.sheet.specs.Words.{sheet_of, words}
use Rattle.profile.specs.Languages.{is_rising}
use Rattle.profile.proofs.HeaderLaws.{not_rising}
use Rattle.checker.specs.Checked.{checked}
use Rattle.checker.proofs.SearchLaws.{none_lent}
use Rattle.checker.proofs.search.check.Goals as goal

pub returns-in-None : goal.returns-in-None
unfolding checked
returns-in-None c =
    sym (not_rising (sheet_of c.args.sheet.now) (words c.args.langs.now) (none_lent (is_rising (words c.args.langs.now)) (words c.args.langs.now) (sym c.lent.ensures ∙ c.in-None.is)))
