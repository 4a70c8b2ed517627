use Rattle.std.proofs.Common.{◌<◌, ◌≡◌, get_or, sym, ap, ◌∙◌, arith}
use borrow.Author.Count.{below_more}
use Rattle.sheet.specs.Words.{sheet_of}
use Rattle.profile.specs.declared.Verdict.TheVariants.{Broken}
use Rattle.profile.specs.Verdict.{number_at, rule_count}
use Rattle.grouping.specs.steps.Groups.{GroupsApart}
use Rattle.checker.specs.steps.Rows.{rule_place}
use Rattle.checker.proofs.SearchLaws.{apart_before, broken_none, verdict_broken, verdict_none}
use Rattle.checker.proofs.SubjectLaws.{numbered, numbers, rule_count_lem}
use Rattle.checker.specs.steps.Kept.{KeptBelow}
use Rattle.checker.proofs.search.first_broken.Goals as goal
use Rattle.checker.proofs.search.first_broken.Goals.{Joined-rule-eq21, After-rule_place, then-rule-eq21, else-rule-eq21}

-- the rule is one of the list
inside : (c : Joined-rule-eq21) → c.loop-rule.rule-index < rule_count
inside c = omega (arith, c.loop-rule-test.true, rule_count_lem)

-- where it is 21, groups have no member in common
apart : (c : Joined-rule-eq21) → get_or numbers c.loop-rule.rule-index 0 ≡ 21 → GroupsApart (sheet_of c.args.sheet.now)
apart c = apart_before _ c.args.langs.now c.loop-rule.rule-index (inside c) c.loop-rule.invariant.0

-- from then on the programmes that were counted keep rules 21 and 22
kept : (c : Joined-rule-eq21) → KeptBelow (sheet_of c.args.sheet.now) c.if-rule-eq21.kept
kept c = elim c.if-rule-eq21.branch [ then-rule-eq21 w ↦ rw w.kept-is (w.kept_programmes-kept.ensures (apart c w.if-rule-eq21.true)) | else-rule-eq21 w ↦ rw w.kept-is c.loop-rule.invariant.1 ]

-- what is found is the place of the list's rule
placed : (c : After-rule_place) → c.loop-rule.rule-index < rule_count → c.rule_place.result ≡ rule_place (sheet_of c.args.sheet.now) c.args.langs.now (number_at c.loop-rule.rule-index)
placed c here = c.rule_place.ensures ∙ ap (rule_place _ c.args.langs.now) (numbered c.loop-rule.rule-index here)

pub rule_place-requires : goal.rule_place-requires
rule_place-requires c = (kept c, apart c)

pub returns-in-Some : goal.returns-in-Some
returns-in-Some c =
    let at = goal.at.returns-in-Some c in let here = inside at.Joined-rule-eq21 in
    ap (λ r. Broken r c.in-Some.place) (numbered c.loop-rule.rule-index here)
    ∙ verdict_broken _ c.args.langs.now c.loop-rule.rule-index here c.loop-rule.invariant.0 _ (sym c.in-Some.is ∙ placed at.After-rule_place here)

pub loop-rule-preserved : goal.loop-rule-preserved
loop-rule-preserved c =
    let at = goal.at.loop-rule-preserved c in
    let whole = broken_none _ c.args.langs.now (number_at c.loop-rule.rule-index) (sym c.in_default.is ∙ placed at.After-rule_place (inside at.Joined-rule-eq21)) in
    (below_more _ _ c.loop-rule.invariant.0 whole, kept at.Joined-rule-eq21)

pub returns : goal.returns
returns c = verdict_none (sheet_of c.args.sheet.now) c.args.langs.now (λ j l. c.loop-rule.invariant.0 j (omega (arith, l, rule_count_lem)))
