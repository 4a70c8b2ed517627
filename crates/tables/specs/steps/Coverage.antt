-- Each way to name as runs of indices, one run for each record that names: the indices of section 6 that its list has, or the value sets
-- of its span. How many runs cover an index. Assumes nothing.
use Rattle.std.specs.Prelude.{ℕ, ◌+◌, ◌<◌, ◌≤◌, ◌&&◌, List, eqb, leb, ltb}
use Rattle.sheet.specs.Words.{Sheet}
use Rattle.sheet.specs.Layout.{field, reference}
use Rattle.sheet.specs.Fields.{contents, content_object}
use Rattle.profile.specs.Counting.{how_many}
use Rattle.tables.specs.declared.Naming.{Naming}
use Rattle.tables.specs.declared.Naming.TheVariants.{ContentObjects, Children, Complements, ContentLists, Included, SetLists, SetSpans}
use Rattle.tables.specs.steps.Namings.{namers, items, place_of}
use Rattle.tables.specs.steps.Marks.{Standing}

-- the index at which a record's run begins
abbrev pub run_begin : Sheet → Naming → ℕ → ℕ
run_begin s kind q = field s (place_of kind).0 q (place_of kind).1

-- the record that an index names
abbrev pub named_at : Sheet → Naming → ℕ → ℕ
named_at s ContentObjects y = y
named_at s Children y = reference s y
named_at s Complements y = reference s y
named_at s ContentLists y = reference s y
named_at s Included y = field s contents (reference s y) content_object
named_at s SetLists y = reference s y
named_at s SetSpans y = y

-- the index after the last of a record's run
unfoldable pub run_end : Sheet → Naming → ℕ → ℕ
run_end s kind q = run_begin s kind q + items s kind q

-- the table has for each index how many of n records have it as the edge f
abbrev pub Tallied : (ℕ → ℕ) → ℕ → List ℕ → Type 0
Tallied f n t = Standing (λ y. how_many (λ q. eqb (f q) y) n) t

-- all runs end at m or before
abbrev pub Reaching : Sheet → Naming → ℕ → Type 0
Reaching s kind m = (q : ℕ) → q < namers s kind → run_end s kind q ≤ m

-- how many runs have an index
unfoldable pub cover : Sheet → Naming → ℕ → ℕ
cover s kind y = how_many (λ q. leb (run_begin s kind q) y && ltb y (run_end s kind q)) (namers s kind)
