-- Each table by its pass. Assumes nothing.
use Rattle.std.proofs.Common.{rules, ◌+◌, not}
use Rattle.profile.specs.Languages.{good_language}
use Rattle.profile.specs.Rules.{lacks}
use Rattle.runs.specs.steps.Runs.{ordinal_at, stray}
use Rattle.sheet.specs.Layout.{reference}
use Rattle.sheet.specs.Words.{sheet_of}
use Rattle.checker.proofs.lent.fill_table.Goals as goal

pub returns-in-Lacking : goal.returns-in-Lacking
returns-in-Lacking c =
    let s = sheet_of c.args.s.now in let filled = c.fill_next.ensures (λ y. lacks s c.in-Lacking.target (reference s y)) (λ i r l q. search rules) in
    (filled.0, λ noughts. rw c.in-Lacking.is filled.1)

pub returns-in-Languages : goal.returns-in-Languages
returns-in-Languages c =
    let s = sheet_of c.args.s.now in let filled = c.fill_next-in-Languages.ensures (λ y. not (good_language c.args.langs.now (reference s y))) (λ i r l q. search rules) in
    (filled.0, λ noughts. rw c.in-Languages.is filled.1)

pub returns-in-Repeats : goal.returns-in-Repeats
returns-in-Repeats c =
    let filled = c.fill_repeats.ensures (reference (sheet_of c.args.s.now)) (λ i r l q. search rules) in (filled.0, λ noughts. rw c.in-Repeats.is filled.1)

pub returns-in-Strays : goal.returns-in-Strays
returns-in-Strays c =
    let s = sheet_of c.args.s.now in let filled = c.fill_next-in-Strays.ensures (λ y. stray s (reference s y) (reference s (y + 1))) (λ i r l q. search rules) in
    (filled.0, λ noughts. rw c.in-Strays.is filled.1)

pub returns-in-Ordinals : goal.returns-in-Ordinals
returns-in-Ordinals c =
    let filled = c.fill_repeats-in-Ordinals.ensures (ordinal_at (sheet_of c.args.s.now)) (λ i r l q. search rules) in (filled.0, λ noughts. rw c.in-Ordinals.is filled.1)
