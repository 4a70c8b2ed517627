use Rattle.std.proofs.Common.{◌≡◌, arith}
use borrow.Author.Count.{below_more}
use Rattle.sheet.specs.Words.{sheet_of}
use Rattle.profile.specs.Verdict.{subjects}
use Rattle.checker.proofs.SubjectLaws.{all_subjects}
use Rattle.checker.proofs.SearchLaws.{section_none, rule_found, rule_none}
use Rattle.checker.proofs.search.rule_place.Goals as goal
use Rattle.checker.proofs.search.rule_place.Goals.{After-lowest_broken-k}

-- so many records as the code asks are the rule's subjects in the section
all : (c : After-lowest_broken-k) → c.how_many-n.result ≡ subjects (sheet_of c.args.s.now) c.args.rule c.loop-section.section
all c = all_subjects _ c.args.rule _ c.subject_kinds-kinds.ensures c.loop-section.section c.loop-section-test.true _ (rw c.from.ensures at c.how_many-n.ensures)

pub returns-then-k-n : goal.returns-then-k-n
returns-then-k-n c =
    rw c.at.ensures (rule_found _ c.args.langs.now c.args.rule c.loop-section.section _ _ (all (goal.at.returns-then-k-n c).After-lowest_broken-k) c.lowest_broken-k.ensures c.loop-section-test.true c.loop-section.invariant c.if-k-n.true)

pub loop-section-preserved : goal.loop-section-preserved
loop-section-preserved c =
    below_more _ _ c.loop-section.invariant (section_none _ c.args.langs.now c.args.rule c.loop-section.section _ _ (all (goal.at.loop-section-preserved c).After-lowest_broken-k) c.lowest_broken-k.ensures c.if-k-n.false)

pub returns : goal.returns
returns c = let a = c.args in rule_none (sheet_of a.s.now) a.langs.now a.rule (λ j l. c.loop-section.invariant j (omega (arith, l)))
