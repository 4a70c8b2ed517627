-- The listing's tracks in the steps of the code: run by run, each behind the last. Assumes nothing.
use Rattle.std.specs.Prelude.{ℕ, ◌+◌, cond, List, [], ◌++◌}
use Rattle.sheet.specs.Words.{Sheet}
use Rattle.sheet.specs.Layout.{number, entry}
use Rattle.sheet.specs.Fields.{objects, track_list, child_list}
use Rattle.profile.specs.Counting.{sum, concat_below, tabulate}
use Rattle.relations.specs.steps.Sizes.{children_tracks}
use Rattle.profile.specs.Relations.{track_at}
use Rattle.listener.specs.declared.State.{State}
use Rattle.listener.specs.State.{state_objects, active}

-- an object's own tracks
unfoldable pub own_tracks : Sheet → ℕ → List ℕ
own_tracks s o = tabulate (track_at s o) (number s objects o track_list)

-- its children's
unfoldable pub child_tracks : Sheet → ℕ → List ℕ
child_tracks s o = concat_below (λ i. own_tracks s (entry s objects o child_list i)) (number s objects o child_list)

-- both
unfoldable pub object_tracks : Sheet → ℕ → List ℕ
object_tracks s o = own_tracks s o ++ child_tracks s o

-- those of an object that is active
unfoldable pub tracks_when : Sheet → State → ℕ → List ℕ
tracks_when s st o = cond (active st o) (object_tracks s o) []

-- all of them
unfoldable pub state_tracks : Sheet → State → List ℕ
state_tracks s st = concat_below (tracks_when s st) state_objects

-- how many an object gives, and an active one
unfoldable pub object_number : Sheet → ℕ → ℕ
object_number s o = number s objects o track_list + children_tracks s o

unfoldable pub number_when : Sheet → State → ℕ → ℕ
number_when s st o = cond (active st o) (object_number s o) 0

-- how many there are
unfoldable pub state_number : Sheet → State → ℕ
state_number s st = sum (number_when s st) state_objects
