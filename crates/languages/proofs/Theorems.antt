-- What is promised of the words of the list. Assumes nothing.
use Rattle.std.proofs.Common.{ℕ, ◌≡◌, List}
use Rattle.profile.specs.Languages.{good_language}
use Rattle.languages.specs.Undivided.{good_undivided}
use Rattle.languages.proofs.GoodLaws.{undivided_good}

-- document 02, L4: "Which of the 65,536 words are good, under any lent list, is proved unchanged." The left side asks without a division or
-- a remainder; the right side is the definition, which takes the letters of a word by both
pub same_words_good : (langs : List ℕ) (w : ℕ) → good_undivided langs w ≡ good_language langs w
same_words_good = undivided_good
