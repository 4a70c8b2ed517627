-- What a pass over a section leaves in several tables at once. Assumes nothing.
use Rattle.std.specs.Prelude.{◌≡◌, List, ℕ, length}
use Rattle.sheet.specs.Words.{Sheet}
use Rattle.tables.specs.declared.Naming.TheVariants.{ContentObjects, Children, Complements, SetSpans}
use Rattle.tables.specs.steps.Marks.{Standing, after_marks, counted_once, named_by, first_by}

-- contents were counted at the objects that they name, in two tables
abbrev pub TopsCounted : Sheet → List ℕ → List ℕ → List ℕ → List ℕ → Type 0
TopsCounted s tops named tops' named' =
    (length tops' ≡ length tops)
    × Standing (after_marks counted_once (named_by s ContentObjects) tops) tops'
    × (length named' ≡ length named)
    × Standing (after_marks counted_once (named_by s ContentObjects) named) named'

-- objects were counted at their children, complements and value sets; and where the last table had noughts, it has for each value set
-- one more than the number of the first object whose it is
abbrev pub ListsCounted : Sheet → List ℕ → List ℕ → List ℕ → List ℕ → List ℕ → List ℕ → List ℕ → List ℕ → Type 0
ListsCounted s named complements spanned owners named' complements' spanned' owners' =
    (length named' ≡ length named)
    × Standing (after_marks counted_once (named_by s Children) named) named'
    × (length complements' ≡ length complements)
    × Standing (after_marks counted_once (named_by s Complements) complements) complements'
    × (length spanned' ≡ length spanned)
    × Standing (after_marks counted_once (named_by s SetSpans) spanned) spanned'
    × (length owners' ≡ length owners)
    × (Standing (λ x. 0) owners → Standing (λ x. first_by s SetSpans x 0) owners')
