-- Which words are codes of three letters by the code's table: one look at the word's entry, no division and no remainder (document 02, L4).
-- They are the words of `three_letters`, all of them: `same_codes` (proofs/CodeLaws). Assumes nothing.
use Rattle.std.specs.Prelude.{ℕ, Bool, false, List, get_or}
use Rattle.std.specs.List.{flat_map}
use Rattle.values.specs.declared.codes.TheConstants.{CODES}

-- the table's parts, rows and words as one list
abbrev pub table : List Bool
table = flat_map (λ x. x) (flat_map (λ x. x) (flat_map (λ x. x) CODES))

-- what the table has for a word; past its end no number is a code
unfoldable pub is_code : ℕ → Bool
is_code w = get_or table w false
