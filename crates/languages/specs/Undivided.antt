-- Which words are good under a list, by what the code asks. Document 02, L4: "the test is to use no division and no remainder. Which of the
-- 65,536 words are good, under any lent list, is proved unchanged": `same_words_good` (proofs/Theorems). Assumes nothing.
use Rattle.std.specs.Prelude.{ℕ, ◌+◌, ◌*◌, Bool, ◌&&◌, ◌||◌, List, leb, ltb}
use Rattle.values.specs.Codes.{is_code}
use Rattle.profile.specs.Languages.{is_listed}

-- "from qaa to qtz (second letter a to t)", of three letters: from the first word of q on, and before the first of qu
unfoldable pub is_between : ℕ → Bool
is_between w = leb (17 * 1024) w && ltb w (17 * 1024 + 21 * 32)

-- "a code of three letters is good if listed, or from qaa to qtz"
unfoldable pub good_undivided : List ℕ → ℕ → Bool
good_undivided langs w = is_code w && (is_between w || is_listed langs w)
