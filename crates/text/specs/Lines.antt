-- Lines of text, and the fields of a line. Assumes nothing.
use Rattle.std.specs.Prelude.{ℕ, ◌+◌, ◌-◌, Bool, cond, ◌&&◌, ◌||◌, List, [], ◌∷◌, ◌++◌, eqb, leb, length, get_or, take, drop}
use Rattle.std.specs.List.{position_or_len}

-- a text from one place to another; empty where it has no such part
unfoldable pub part : List ℕ → ℕ → ℕ → List ℕ
part s start end = cond (leb start end && leb end (length s)) (take (end - start) (drop start s)) []

-- where the line that begins at a place of a text ends: before its newline, which is 10, or at the text's end
unfoldable pub line_end : List ℕ → ℕ → ℕ
line_end s at = at + position_or_len (λ b. eqb b 10) (drop at s)

-- a line without a carriage return at its end; 13 is the carriage return
unfoldable pub without_return : List ℕ → List ℕ
without_return s = cond (eqb (get_or s (length s - 1) 0) 13) (take (length s - 1) s) s

-- what a line says: one of more than 256 bytes says nothing
unfoldable pub said : List ℕ → List ℕ
said s = cond (leb (length s) 256) (without_return s) []

-- a space or a tab
unfoldable pub is_blank : ℕ → Bool
is_blank b = eqb b 32 || eqb b 9

-- what has ended, before what is behind it: no bytes are no field, and no line
abbrev pub ended : List ℕ → List (List ℕ) → List (List ℕ)
ended [] fs = fs
ended (b ∷ f) fs = (b ∷ f) ∷ fs

-- the fields of a line, of which f is what was read of the first
unfoldable pub fields_from : List ℕ → List ℕ → List (List ℕ)
fields_from f [] = ended f []
fields_from f (b ∷ s) = cond (is_blank b) (ended f (fields_from [] s)) (fields_from (f ++ (b ∷ [])) s)

-- the fields of a line: the runs of bytes that are not blank
unfoldable pub fields : List ℕ → List (List ℕ)
fields s = fields_from [] s

-- the lines of a text, of which l is what was read of the first
unfoldable pub lines_from : List ℕ → List ℕ → List (List ℕ)
lines_from l [] = ended l []
lines_from l (b ∷ s) = cond (eqb b 10) (l ∷ lines_from [] s) (lines_from (l ++ (b ∷ [])) s)

-- the lines of a text: each ends before a newline, which is 10; the last may end without one, unless it is empty
unfoldable pub lines : List ℕ → List (List ℕ)
lines s = lines_from [] s
