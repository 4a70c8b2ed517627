-- The members of a group that pass a test. Assumes nothing.
use Rattle.std.specs.Prelude.{ℕ, Bool, not, List, eqb, get_or}
use Rattle.sheet.specs.Words.{Sheet}
use Rattle.profile.specs.Counting.{how_many}
use Rattle.profile.specs.Relations.{member, members}

-- an object's flag, none past the table's end
unfoldable pub flagged : List ℕ → ℕ → Bool
flagged t o = not (eqb (get_or t o 0) 0)

-- how many members of a leader's group have p
unfoldable pub how_many_members : Sheet → (ℕ → Bool) → ℕ → ℕ
how_many_members s p l = how_many (λ i. p (member s l i)) (members s l)
