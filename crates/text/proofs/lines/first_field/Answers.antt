use mathlib.Core.Path.{refl}
use borrow.Author.Rules.{rules}
use Rattle.std.specs.Prelude.{Some, None}
use Rattle.std.proofs.lemmas.Iterator.{YieldsList-from_slice}
use Rattle.std.proofs.lemmas.Iterator.Search.{position_from_yields_List}
use Rattle.text.specs.Lines.{is_blank}
use Rattle.text.proofs.LineLaws.{in_field, passes_at, passes_nowhere, no_field, before_blank, last_field}
use Rattle.text.proofs.lines.first_field.Goals as goal

pub returns-in_err-start : goal.returns-in_err-start
returns-in_err-start c =
    rw c.from_residual.ensures
    (no_field c.args.line.now
    (passes_nowhere in_field c.args.line.now
    (position_from_yields_List in_field _ _ None c.in_err-start.ensures.ran (YieldsList-from_slice c.args.line.now c.iter.ensures.rest) (λ x b q k. search rules))))

pub returns-in-Some : goal.returns-in-Some
returns-in-Some c =
    let start = c.in_ok-start.start in let end = c.in-Some.end in
    rw (c.split_at.ensures.front, c.split_at.ensures.back)
    (before_blank c.args.line.now _ start
    (passes_at in_field c.args.line.now start
    (position_from_yields_List in_field _ _ (Some start) c.in_ok-start.ensures.ran (YieldsList-from_slice c.args.line.now c.iter.ensures.rest) (λ x b q k. search rules)))
    refl end
    (passes_at is_blank _ end (position_from_yields_List is_blank _ _ (Some end) c.in-Some.ensures.ran (YieldsList-from_slice _ c.iter-2.ensures.rest) (λ x b q k. search rules))))

pub returns-in-None : goal.returns-in-None
returns-in-None c =
    let start = c.in_ok-start.start in
    last_field c.args.line.now _ start
    (passes_at in_field c.args.line.now start
    (position_from_yields_List in_field _ _ (Some start) c.in_ok-start.ensures.ran (YieldsList-from_slice c.args.line.now c.iter.ensures.rest) (λ x b q k. search rules)))
    refl
    (passes_nowhere is_blank _ (position_from_yields_List is_blank _ _ None c.in-None.ensures.ran (YieldsList-from_slice _ c.iter-2.ensures.rest) (λ x b q k. search rules)))
