-- Bytes of text. Assumes nothing.
use Rattle.std.specs.Prelude.{ℕ, Bool, true, false, ◌&&◌, List, [], ◌∷◌, ◌++◌, eqb}
use Prim.Native.Char.{code}
use Prim.Native.String.{String, [] as none, ◌∷◌ as ◌before◌}

-- the bytes of a quoted text, whose characters are all of ASCII
abbrev pub ascii : String → List ℕ
ascii none = []
ascii (◌before◌ c t) = code c ∷ ascii t

-- two texts have the same bytes
unfoldable pub same : List ℕ → List ℕ → Bool
same [] [] = true
same [] (b ∷ t) = false
same (a ∷ s) [] = false
same (a ∷ s) (b ∷ t) = eqb a b && same s t

-- texts one behind the other
unfoldable pub join : List (List ℕ) → List ℕ
join [] = []
join (s ∷ ss) = s ++ join ss
