-- What it is for a table to be right. An empty table is. Assumes nothing.
use Rattle.std.specs.Prelude.{ℕ, ◌-◌, cond, List, eqb}
use Rattle.sheet.specs.Words.{Sheet}
use Rattle.sheet.specs.Layout.{count}
use Rattle.sheet.specs.Fields.{programmes, objects, set_list}
use Rattle.profile.specs.Counting.{how_many}
use Rattle.profile.specs.Relations.{lists, includes, has_set, namings}
use Rattle.tables.specs.declared.Naming.TheVariants.{ContentObjects, Complements, ContentLists, SetSpans}
use Rattle.tables.specs.declared.ObjectTables.{ObjectTables}
use Rattle.tables.specs.declared.GroupTables.{GroupTables}
use Rattle.tables.specs.steps.Marks.{Standing, counted_once, repeat, named_by, first_by}

-- a number as a place has it: 0, 1, or 2 for two or more
unfoldable pub counted : ℕ → ℕ
counted n = repeat counted_once n 0

-- what stands for a number: one more than it, or 0 for none
unfoldable pub told : ℕ → ℕ → ℕ
told d c = cond (eqb c 0) d (c - 1)

-- how often contents name an object
abbrev pub Tops : Sheet → List ℕ → Type 0
Tops s = Standing (λ o. counted (named_by s ContentObjects o))

-- how often contents and child lists name it
abbrev pub Named : Sheet → List ℕ → Type 0
Named s = Standing (λ o. counted (namings s o))

-- how often complement lists name it
abbrev pub Complemented : Sheet → List ℕ → Type 0
Complemented s = Standing (λ o. counted (named_by s Complements o))

-- one more than the first object that lists it as a complement, 0 where none does
abbrev pub Leaders : Sheet → List ℕ → Type 0
Leaders s = Standing (λ o. first_by s Complements o 0)

-- in how many spans a value set is
abbrev pub Spanned : Sheet → List ℕ → Type 0
Spanned s = Standing (λ v. counted (how_many (λ o. has_set s o v) (count s objects)))

-- one more than the first object whose it is, 0 where there is none
abbrev pub Owners : Sheet → List ℕ → Type 0
Owners s = Standing (λ v. first_by s SetSpans v 0)

-- how often content lists name a content
abbrev pub Listed : Sheet → List ℕ → Type 0
Listed s = Standing (λ c. counted (named_by s ContentLists c))

-- 1 for the value sets that a programme names
abbrev pub NamedSets : Sheet → ℕ → List ℕ → Type 0
NamedSets s p = Standing (λ v. cond (lists s programmes p set_list v) 1 0)

-- 1 for the objects that a programme includes
abbrev pub Included : Sheet → ℕ → List ℕ → Type 0
Included s p = Standing (λ o. cond (includes s p o) 1 0)

-- the tables of the objects are
abbrev pub ObjectsTabled : Sheet → ObjectTables → Type 0
ObjectsTabled s t = Tops s t.tops.now × Complemented s t.complements.now

-- the tables of value sets and groups are
abbrev pub GroupsTabled : Sheet → GroupTables → Type 0
GroupsTabled s t = Owners s t.owners.now × Leaders s t.leaders.now
