-- Words, put one behind the other. Assumes nothing.
use Prim.Native.Nat.{ℕ, zero, suc, ◌+◌, ◌<◌}
use mathlib.Core.Path.{◌≡◌, sym}
use mathlib.Core.List.{List, [], ◌∷◌, ◌++◌, append_assoc, append-nil}
use native.Mathlib.Omega.{arith}
use lib.ListN.{length, get_or, take}
use Rattle.text.specs.Bytes.{ascii}
use Rattle.text.specs.Decimal.{decimal}
use Rattle.console.specs.Answers.{words_text}

-- one word more
pub words_more : (ws : List ℕ) (i : ℕ) → i < length ws → words_text (take (i + 1) ws) ≡ words_text (take i ws) ++ (ascii " " ++ decimal (get_or ws i 0))
unfolding words_text
words_more [] i h = absurd (omega arith)
words_more (w ∷ ws) zero h = append-nil (ascii " " ++ decimal w)
words_more (w ∷ ws) (suc i) h =
    let e : suc i + 1 ≡ suc (i + 1) = omega arith in
    rw (e, words_more ws i (omega arith)) (sym (append_assoc (ascii " " ++ decimal w) (words_text (take i ws)) (ascii " " ++ decimal (get_or ws i 0))))
