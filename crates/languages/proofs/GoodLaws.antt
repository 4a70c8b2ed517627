-- A word is good by what the code asks of it, in its order, and without dividing. Assumes nothing.
use Rattle.std.proofs.Common.{ℕ, ◌≡◌, ap, Bool, ◌&&◌, ◌||◌, List}
use Rattle.std.proofs.Math.Bool.{or_comm}
use Rattle.values.specs.Language.{three_letters}
use Rattle.values.proofs.CodeLaws.{same_codes}
use Rattle.profile.specs.Languages.{good_language, is_listed, is_reserved}
use Rattle.languages.specs.Undivided.{is_between, good_undivided}
use Rattle.languages.proofs.ReservedLaws.{between}

pub found_good : (langs : List ℕ) (w : ℕ) → (three_letters w && (is_reserved w || is_listed langs w)) ≡ good_language langs w
unfolding good_language
found_good langs w = ap (λ (b : Bool). three_letters w && b) (or_comm (is_reserved w) (is_listed langs w))

pub undivided_good : (langs : List ℕ) (w : ℕ) → good_undivided langs w ≡ good_language langs w
unfolding good_undivided is_between
undivided_good langs w = rw (same_codes w, between w) (found_good langs w)
