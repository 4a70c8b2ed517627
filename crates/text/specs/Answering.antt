-- Answering an input as it comes, by what is written for it. Assumes nothing.
use Rattle.std.specs.Prelude.{ℕ, ◌≡◌, List, ◌++◌, Option, IfSome}
use Rattle.std.specs.Io.KnownBytes.{Appends}

-- A read is answered: what was written, with the answers to any bytes behind the read, answers the read and those bytes.
abbrev pub AnsweredRead : {A : Type 0} → (A → List ℕ → List ℕ) → A → A → List ℕ → Option (List ℕ) → Option (List ℕ) → Type 0
AnsweredRead answers old new read before after =
    (written : List ℕ) × Appends before after written × ((rest : List ℕ) → answers old (read ++ rest) ≡ written ++ answers new rest)

-- An input whose bytes are known is answered.
abbrev pub AnsweredInput : (List ℕ → List ℕ) → Option (List ℕ) → Option (List ℕ) → Option (List ℕ) → Type 0
AnsweredInput answers input before after = IfSome input (λ bytes. Appends before after (answers bytes))
