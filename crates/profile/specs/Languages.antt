-- The list of languages that is lent beside a sheet. Document 02, L2: "The caller lends a list of language words beside the sheet, as bytes
-- like it, an odd last byte ignored; a code of three letters is good if listed, or from qaa to qtz (second letter a to t)." Here a list is
-- that of its words (`words` of sheet/specs/Words). Assumes nothing.
use Rattle.std.specs.Prelude.{ℕ, ◌-◌, ◌+◌, ◌/◌, ◌%◌, Bool, not, ◌&&◌, ◌||◌, List, eqb, leb, length, get_or}
use Rattle.values.specs.Language.{three_letters}
use Rattle.profile.specs.Counting.{any}

-- "listed"
unfoldable pub is_listed : List ℕ → ℕ → Bool
is_listed langs w = any (λ i. eqb (get_or langs i 0) w) (length langs)

-- "from qaa to qtz (second letter a to t)", of three letters
unfoldable pub is_reserved : ℕ → Bool
is_reserved w = eqb (w / 1024) 17 && leb (w / 32 % 32) 20

-- "a code of three letters is good if listed, or from qaa to qtz"
unfoldable pub good_language : List ℕ → ℕ → Bool
good_language langs w = three_letters w && (is_listed langs w || is_reserved w)

-- "strictly rising": no word is at most the one before it
unfoldable pub is_rising : List ℕ → Bool
is_rising langs = not (any (λ i. leb (get_or langs (i + 1) 0) (get_or langs i 0)) (length langs - 1))
