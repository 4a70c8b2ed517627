-- The verdict on a live frame as a number. Document 02, L5: "Errors: in this order, 35, an initialising block not first; 36, a bad length or start, or
-- an unfinished last block; 37, no block at all (Table 20) or a total unlike the frame." Assumes nothing.
use Rattle.std.specs.Prelude.{ℕ, ◌≡◌, refl, [], ◌∷◌, map, Result, Ok, Err, ⊤}
use Rattle.frames.specs.declared.FrameError.{FrameError}
use Rattle.frames.specs.declared.FrameError.TheVariants.{InitialisingNotFirst, BadBlock, BadTotal}
use Rattle.frames.specs.Conformance.{accepted, error_number}

-- 0 for acceptance, else document 02's number
unfoldable pub frame_code : Result ⊤ FrameError → ℕ
frame_code (Ok done) = 0
frame_code (Err error) = error_number error

-- all of them, computed
pub frame_codes : map frame_code (accepted ∷ Err InitialisingNotFirst ∷ Err BadBlock ∷ Err BadTotal ∷ []) ≡ 0 ∷ 35 ∷ 36 ∷ 37 ∷ []
unfolding frame_code
frame_codes = refl
