-- Programs that are lent a sheet and a list of languages. Assumes nothing.
use Rattle.std.specs.Prelude.{ℕ, ◌≤◌, List, length}
use denote.Ref.{Bor}

-- What is told of some sheet and some list, no longer than there is room for: no contract can say what a file has.
abbrev pub Told : {T : Type 0} → (Bor (List ℕ) → Bor (List ℕ) → T → Type 0) → T → Type 0
Told tells told = (sheet : Bor (List ℕ)) × (langs : Bor (List ℕ)) × (length sheet.now ≤ 65536) × (length langs.now ≤ 131074) × tells sheet langs told
