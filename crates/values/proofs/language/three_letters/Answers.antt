use Rattle.std.proofs.Common.{◌≡◌, ◌∙◌, ap}
use Rattle.std.specs.List.{flat_map}
use Rattle.values.specs.Codes.{is_code, table}
use Rattle.values.proofs.CodeLaws.{same_codes}
use Rattle.values.proofs.language.three_letters.Goals as goal

pub returns : goal.returns
unfolding is_code
returns c =
    let rows : c.as_flattened-2.result.now ≡ _ = c.as_flattened-2.ensures.value ∙ ap (λ x. flat_map (λ y. y) x) c.as_flattened.ensures.value in
    let whole : c.as_flattened-codes.result.now ≡ table = c.as_flattened-codes.ensures.value ∙ ap (λ x. flat_map (λ y. y) x) rows in
    rw (whole, c.from.ensures) (same_codes c.args.w)
