-- The line of a verdict. Document 02, L5: "Errors: in this order, 35, [..] 36, [..] 37 [..]". The program `framecheck` prints `accepted` or, as in
-- `rule 35`, the error's number. Assumes nothing.
use Rattle.std.specs.Prelude.{ℕ, ◌≡◌, refl, List, [], ◌∷◌, ◌++◌, map, Result, Ok, Err, ⊤}
use Rattle.frames.specs.declared.FrameError.{FrameError}
use Rattle.frames.specs.declared.FrameError.TheVariants.{InitialisingNotFirst, BadBlock, BadTotal}
use Rattle.frames.specs.Conformance.{accepted, error_number}
use Rattle.text.specs.Bytes.{ascii}
use Rattle.text.specs.Decimal.{spelled, decimal}

unfoldable pub frame_line : Result ⊤ FrameError → List ℕ
frame_line (Ok done) = ascii "accepted\n"
frame_line (Err error) = ascii "rule " ++ decimal (error_number error) ++ ascii "\n"

-- all of them, computed
pub frame_lines :
    map frame_line (accepted ∷ Err InitialisingNotFirst ∷ Err BadBlock ∷ Err BadTotal ∷ [])
    ≡ ascii "accepted\n" ∷ ascii "rule 35\n" ∷ ascii "rule 36\n" ∷ ascii "rule 37\n" ∷ []
unfolding frame_line decimal spelled
frame_lines = refl
