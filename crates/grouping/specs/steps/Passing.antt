-- What the pass is given, and what it leaves. Assumes nothing.
use Rattle.std.specs.Prelude.{ℕ, ◌≡◌, Bool, true, not, Option, is_some, ◌&&◌, ◌||◌, List, eqb, length}
use Rattle.sheet.specs.Words.{Sheet}
use Rattle.sheet.specs.Layout.{count, field, number}
use Rattle.sheet.specs.Fields.{programmes, objects, content_list, set_list}
use Rattle.tables.specs.steps.Right.{Owners}
use Rattle.inclusion.specs.declared.SetTables.{SetTables}
use Rattle.inclusion.specs.steps.Alike.{Alike, owners_of, alike_of}
use Rattle.grouping.specs.steps.Groups.{GroupsApart, KeptTo, OneSpan}

-- what the pass rests on: the owners of the sets, the sets that stand for others, and for rule 22 that each set is in one span
abbrev pub Passing : Sheet → Bool → List ℕ → List ℕ → Type 0
Passing s both owners alike = Owners s owners × Alike s alike × (both ≡ true → OneSpan s)

-- three tables have a place for each object
abbrev pub Full : Sheet → List ℕ → List ℕ → List ℕ → Type 0
Full s t u v = (length t ≡ count s objects) × (length u ≡ count s objects) × (length v ≡ count s objects)

-- two programmes have the same list at a position
unfoldable pub same_list : Sheet → ℕ → ℕ → ℕ → Bool
same_list s p q at = eqb (field s programmes p at) (field s programmes q at) && eqb (number s programmes p at) (number s programmes q at)

-- the same contents and, with both, the same sets
unfoldable pub same_lists : Sheet → Bool → ℕ → ℕ → Bool
same_lists s both p q = same_list s p q content_list && (not both || same_list s p q set_list)

-- With three tables that keep their lengths: where they have a place for each object, and the programmes before the first that is tested
-- are kept, those before r are.
pub record KeptFrom (s : Sheet) (from : ℕ) (sets : Option SetTables) (t u v t' u' v' : List ℕ) (r : ℕ) : Type 0 where
  pub first : length t' ≡ length t
  pub second : length u' ≡ length u
  pub third : length v' ≡ length v
  pub kept : Passing s (is_some sets) (owners_of sets) (alike_of sets) → Full s t u v → GroupsApart s → KeptTo s (is_some sets) from → KeptTo s (is_some sets) r
