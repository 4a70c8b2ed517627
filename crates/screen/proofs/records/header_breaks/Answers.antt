-- The sections one after the other. Assumes nothing.
use mathlib.Core.Path.{refl}
use borrow.Author.Rules.{rules}
use Rattle.std.proofs.lemmas.Iterator.{YieldsList-from_range}
use Rattle.std.proofs.lemmas.Iterator.Search.{any_from_yields_List}
use Rattle.sheet.specs.Words.{sheet_of}
use Rattle.profile.specs.Rules.{rule3, rule7}
use Rattle.screen.specs.steps.Screened.{header_broken}
use Rattle.screen.proofs.records.header_breaks.Goals as goal

pub returns : goal.returns
unfolding header_broken
returns c =
    let s = sheet_of c.args.s.now in
    let a = any_from_yields_List (λ k. rule3 s k 0) _ _ _ c.any.ensures.ran (YieldsList-from_range 1 8 7 refl refl) (λ x b q k. search rules) in
    let b = any_from_yields_List (λ k. rule7 s k 0) _ _ _ c.any-2.ensures.ran (YieldsList-from_range 1 6 5 refl refl) (λ x b q k. search rules) in
    simp (c.rule1.ensures, c.rule2.ensures, a, b)
