-- What the checker answers. Assumes nothing.
use Rattle.std.specs.Prelude.{ℕ, List}
use Rattle.sheet.specs.Words.{words, sheet_of}
use Rattle.profile.specs.declared.Verdict.{Verdict}
use Rattle.profile.specs.Verdict.{verdict}

-- the verdict on lent bytes: a sheet, and the list of languages beside it
unfoldable pub checked : List ℕ → List ℕ → Verdict
checked sheet langs = verdict (sheet_of sheet) (words langs)
