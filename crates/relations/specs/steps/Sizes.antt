-- The parts of a size that a loop each computes. Assumes nothing.
use Rattle.std.specs.Prelude.{ℕ}
use Rattle.sheet.specs.Words.{Sheet}
use Rattle.sheet.specs.Layout.{count, number, entry}
use Rattle.sheet.specs.Fields.{objects, track_list, child_list}
use Rattle.profile.specs.Counting.{how_many, sum, largest}
use Rattle.profile.specs.Relations.{member, members, lone, size}

-- the tracks of an object's children
unfoldable pub children_tracks : Sheet → ℕ → ℕ
children_tracks s o = sum (λ i. number s objects (entry s objects o child_list i) track_list) (number s objects o child_list)

-- the size of the largest member of a leader's group
unfoldable pub largest_member : Sheet → ℕ → ℕ
largest_member s l = largest (λ i. size s (member s l i)) (members s l)

-- how many top objects are in no group
unfoldable pub lone_objects : Sheet → ℕ
lone_objects s = how_many (lone s) (count s objects)
