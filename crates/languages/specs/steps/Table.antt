-- The table of a lent list, by which one look tells whether a word is good. Assumes nothing.
use Rattle.std.specs.Prelude.{ℕ, ◌<◌, ◌≡◌, false, Bool, List, get_or, length}
use Rattle.profile.specs.Languages.{good_language}

-- what is good under the list, of every word that the table reaches
abbrev pub Tabled : List ℕ → List Bool → Type 0
Tabled langs table = (w : ℕ) → w < length table → get_or table w false ≡ good_language langs w
