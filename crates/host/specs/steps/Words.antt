-- The words that the host call lists into before it writes bytes. Assumes nothing.
use Rattle.std.specs.Prelude.{ℕ}
use Rattle.listener.specs.Listing.{enough_words}

-- how many they are: enough at levels 1 and 2
abbrev pub host_words : ℕ
host_words = enough_words
