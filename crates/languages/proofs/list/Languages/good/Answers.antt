use Rattle.std.proofs.Common.{sym, ◌∙◌}
use Rattle.languages.proofs.GoodLaws.{found_good}
use Rattle.languages.proofs.list.Languages.good.Goals as goal

pub returns-then-is_reserved : goal.returns-then-is_reserved
returns-then-is_reserved c =
    c.if-is_reserved.true ∙ rw (sym c.three_letters.ensures ∙ c.if-three_letters.true, sym c.is_reserved.ensures ∙ c.if-is_reserved.true) at (found_good c.args.self.now c.args.w)

pub returns-else-is_reserved : goal.returns-else-is_reserved
returns-else-is_reserved c =
    c.is_listed.ensures ∙ rw (sym c.three_letters.ensures ∙ c.if-three_letters.true, sym c.is_reserved.ensures ∙ c.if-is_reserved.false) at (found_good c.args.self.now c.args.w)

pub returns-else-three_letters : goal.returns-else-three_letters
returns-else-three_letters c = c.if-three_letters.false ∙ rw (sym c.three_letters.ensures ∙ c.if-three_letters.false) at (found_good c.args.self.now c.args.w)
