-- The tables that the checker lends the rules, and that they are right. Empty ones are. Assumes nothing.
use Rattle.std.specs.Prelude.{ℕ, cond, List, eqb}
use Rattle.sheet.specs.Words.{Sheet}
use Rattle.sheet.specs.Fields.{programmes, objects}
use Rattle.tables.specs.steps.Right as tables
use Rattle.runs.specs.steps.Runs.{LacksRight, LanguagesRight, OrdinalRight, RepeatRight, StrayRight}
use Rattle.rules.specs.steps.Loops.{first_target, second_target}
use Rattle.checker.specs.declared.Table.{Table}
use Rattle.checker.specs.declared.Table.TheVariants.{Nothing, Named, Spanned, Listed, Tops, Complements, Owners, Leaders, Lacking, Languages, Repeats, Strays, Ordinals}

-- the table is what it is to be
abbrev pub Right : Sheet → List ℕ → Table → List ℕ → Type 0
Right s langs Nothing t = Unit {0}
Right s langs Named t = tables.Named s t
Right s langs Spanned t = tables.Spanned s t
Right s langs Listed t = tables.Listed s t
Right s langs Tops t = tables.Tops s t
Right s langs Complements t = tables.Complemented s t
Right s langs Owners t = tables.Owners s t
Right s langs Leaders t = tables.Leaders s t
Right s langs (Lacking target) t = LacksRight s target t
Right s langs Languages t = LanguagesRight s langs t
Right s langs Repeats t = RepeatRight s t
Right s langs Strays t = StrayRight s t
Right s langs Ordinals t = OrdinalRight s t

-- the first table that a rule is lent for the records of a section
unfoldable pub first_table : ℕ → ℕ → Table
first_table rule section =
    cond (eqb rule 5) (Lacking (first_target section))
    (cond (eqb rule 6) Languages
    (cond (eqb rule 9) Repeats
    (cond (eqb rule 11) (cond (eqb section objects) Named Spanned)
    (cond (eqb rule 12) (cond (eqb section programmes) Repeats Listed)
    (cond (eqb rule 14) Strays
    (cond (eqb rule 15) Tops
    (cond (eqb rule 17) Owners
    (cond (eqb rule 18) Owners
    (cond (eqb rule 19) Tops
    (cond (eqb rule 22) Owners
    (cond (eqb rule 23) Tops
    (cond (eqb rule 24) Tops Nothing))))))))))))

-- the second one
unfoldable pub second_table : ℕ → ℕ → Table
second_table rule section =
    cond (eqb rule 5) (Lacking (second_target section))
    (cond (eqb rule 14) Ordinals
    (cond (eqb rule 19) Complements
    (cond (eqb rule 22) Leaders
    (cond (eqb rule 23) Complements
    (cond (eqb rule 24) Complements Nothing)))))
