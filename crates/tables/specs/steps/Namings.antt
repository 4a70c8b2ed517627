-- Who names what: the ways in which a record names others, each as so many items. Assumes nothing.
use Rattle.std.specs.Prelude.{ℕ, ◌+◌}
use Rattle.sheet.specs.Words.{Sheet}
use Rattle.sheet.specs.Layout.{count, field, first, number, entry}
use Rattle.sheet.specs.Fields.{programmes, contents, objects, content_list, set_list, content_object, child_list, complement_list, set_span}
use Rattle.tables.specs.declared.Naming.{Naming}
use Rattle.tables.specs.declared.Naming.TheVariants.{ContentObjects, Children, Complements, ContentLists, Included, SetLists, SetSpans}

-- where a way's names stand: the section of the records that name, and the position of the index, the list or the span in each
abbrev pub place_of : Naming → ℕ × ℕ
place_of ContentObjects = (contents, content_object)
place_of Children = (objects, child_list)
place_of Complements = (objects, complement_list)
place_of ContentLists = (programmes, content_list)
place_of Included = (programmes, content_list)
place_of SetLists = (programmes, set_list)
place_of SetSpans = (objects, set_span)

-- how many records name others in that way
abbrev pub namers : Sheet → Naming → ℕ
namers s kind = count s (place_of kind).0

-- how many records a record names
abbrev pub items : Sheet → Naming → ℕ → ℕ
items s ContentObjects q = 1
items s kind q = number s (place_of kind).0 q (place_of kind).1

-- the one it names at a place
abbrev pub item : Sheet → Naming → ℕ → ℕ → ℕ
item s ContentObjects q i = field s contents q content_object
item s Children q i = entry s objects q child_list i
item s Complements q i = entry s objects q complement_list i
item s ContentLists q i = entry s programmes q content_list i
item s Included q i = field s contents (entry s programmes q content_list i) content_object
item s SetLists q i = entry s programmes q set_list i
item s SetSpans q i = first s objects q set_span + i
