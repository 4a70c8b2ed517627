-- Activity by a test of which objects are active, in the steps of the code. Assumes nothing.
use Rattle.std.specs.Prelude.{ℕ, Bool, cond, eqb}
use Rattle.sheet.specs.Words.{Sheet}
use Rattle.profile.specs.Relations.{leader_of}
use Rattle.tables.specs.steps.Members.{how_many_members}
use Rattle.granted.specs.Granted.{in_whole_group}

-- an object's activity is sound, where `a` tells which objects are active
unfoldable pub activity_by : Sheet → ℕ → (ℕ → Bool) → ℕ → Bool
activity_by s p a o = cond (in_whole_group s p o) (eqb (how_many_members s a (leader_of s o)) 1) (a o)
