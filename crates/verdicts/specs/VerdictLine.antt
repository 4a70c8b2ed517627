-- A verdict as a line of text. Document 01, "Cases": "Program `sheetcheck` reads a sheet from standard input and prints one line: for A
-- `accepted`, for A with ordinal 1 `rule 14 section 3 record 0`." Assumes nothing.
use Rattle.std.specs.Prelude.{ℕ, ◌≡◌, refl, List, [], ◌∷◌, map}
use Rattle.profile.specs.declared.Verdict.{Verdict}
use Rattle.profile.specs.declared.Verdict.TheVariants.{Accepted, Broken}
use Rattle.profile.specs.declared.Place.TheVariants as place
use Rattle.profile.specs.Verdict.{section_of, record_of}
use Rattle.text.specs.Bytes.{ascii, join}
use Rattle.text.specs.Decimal.{spelled, decimal}

-- `accepted`, or as in `rule 14 section 3 record 0`
unfoldable pub verdict_line : Verdict → List ℕ
verdict_line Accepted = ascii "accepted\n"
verdict_line (Broken rule place) =
    join (ascii "rule " ∷ decimal rule ∷ ascii " section " ∷ decimal (section_of place) ∷ ascii " record " ∷ decimal (record_of place) ∷ ascii "\n" ∷ [])

-- some of them, computed
pub verdict_lines :
    map verdict_line (Accepted ∷ Broken 14 (place.Object 0) ∷ Broken 1 place.Header ∷ Broken 6 (place.ValueSet 4677) ∷ Broken 4 (place.Reference 10) ∷ Broken 33 place.Header ∷ [])
    ≡ ascii "accepted\n"
    ∷ ascii "rule 14 section 3 record 0\n"
    ∷ ascii "rule 1 section 0 record 0\n"
    ∷ ascii "rule 6 section 7 record 4677\n"
    ∷ ascii "rule 4 section 6 record 10\n"
    ∷ ascii "rule 33 section 0 record 0\n"
    ∷ []
unfolding verdict_line join decimal spelled
verdict_lines = refl
