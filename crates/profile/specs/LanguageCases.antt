-- A third table of cases, about the list of languages: each sheet with the list that it is lent. Document 02, L2. Assumes nothing.
use Rattle.std.specs.Prelude.{ℕ, ◌+◌, ◌*◌, ◌≡◌, refl, List, [], ◌∷◌, ◌++◌, map}
use Rattle.sheet.specs.Words.{words, sheet_of}
use Rattle.sheet.specs.Fields.{programmes, contents, programme_language, content_language}
use Rattle.profile.specs.declared.Place.TheVariants.{Header, Programme, Content}
use Rattle.profile.specs.declared.Verdict.{Verdict}
use Rattle.profile.specs.declared.Verdict.TheVariants.{Accepted, Broken}
use Rattle.profile.specs.Verdict.{verdict}
use Rattle.profile.specs.Judged.{judged}
use Rattle.profile.specs.Build.{build, put, bytes_of, eng, programme, content, object, leaf, below, speakers, channel_tracks, plain, row_entries, row_words, section_words, section_entries, pairs}
use Rattle.profile.specs.Cases.{Case, sheet_a}
use Rattle.profile.specs.RuleCases.{labelled}

-- the word of three letters, by their numbers: a = 1 to z = 26
abbrev letters : ℕ → ℕ → ℕ → ℕ
letters a b c = 1024 * a + 32 * b + c

-- "qaa to qtz", and what stands beside it
abbrev qaa : ℕ
qaa = letters 17 1 1

abbrev qtz : ℕ
qtz = letters 17 20 26

abbrev qua : ℕ
qua = letters 17 21 1

abbrev paz : ℕ
paz = letters 16 1 26

-- "xqx", which the catalogue found
abbrev xqx : ℕ
xqx = letters 24 17 24

-- A with another language word of its programme, of its content, under a list of words
unfoldable pub spoken : ℕ → ℕ → List ℕ → Verdict → Case
spoken p c langs v =
    record { bytes = bytes_of (put programmes 0 programme_language p (put contents 0 content_language c sheet_a)); langs = bytes_of langs; answer = v }

-- a programme in English with labels of its content, under a list of words
unfoldable pub told : List ℕ → List ℕ → Verdict → Case
told labels langs v = record { bytes = bytes_of (build (labelled 1 [] labels)); langs = bytes_of langs; answer = v }

-- lent bytes that are no whole words
unfoldable pub lent_bytes : List ℕ → List ℕ → Verdict → Case
lent_bytes bytes langs v = record { bytes = bytes; langs = langs; answer = v }

unfoldable pub language_cases : List Case
unfolding spoken told lent_bytes labelled sheet_a build put bytes_of programme content object leaf below speakers channel_tracks plain row_entries row_words section_words section_entries pairs judged
language_cases =
    -- listed, and not
    spoken eng eng (eng ∷ []) Accepted
    ∷ spoken eng eng [] (Broken 6 (Programme 0))
    ∷ spoken eng xqx (eng ∷ []) (Broken 6 (Content 0))
    ∷ spoken eng xqx (eng ∷ xqx ∷ []) Accepted
    ∷ spoken eng eng ((eng + 1) ∷ []) (Broken 6 (Programme 0))
    -- the first, the middle and the last word of a list
    ∷ spoken (letters 1 1 1) (letters 26 26 26) (letters 1 1 1 ∷ eng ∷ letters 26 26 26 ∷ []) Accepted
    ∷ spoken eng eng (letters 1 1 1 ∷ eng ∷ letters 26 26 26 ∷ []) Accepted
    -- "from qaa to qtz (second letter a to t)", under an empty list
    ∷ spoken qaa qtz [] Accepted
    ∷ spoken qua qaa [] (Broken 6 (Programme 0))
    ∷ spoken qaa paz [] (Broken 6 (Content 0))
    ∷ spoken qaa (qaa + 31) [] (Broken 6 (Content 0))
    -- a listed word that is no three letters stays bad
    ∷ spoken 0 eng (0 ∷ eng ∷ []) (Broken 6 (Programme 0))
    ∷ spoken eng (eng + 32768) (eng ∷ (eng + 32768) ∷ []) (Broken 6 (Content 0))
    -- labels
    ∷ told (eng ∷ qtz ∷ []) (eng ∷ []) Accepted
    ∷ told (eng ∷ qua ∷ []) (eng ∷ []) (Broken 6 (Content 0))
    ∷ told (xqx ∷ eng ∷ []) (eng ∷ []) (Broken 6 (Content 0))
    -- "an odd last byte ignored": "eng" and a byte; a byte alone is an empty list
    ∷ lent_bytes (bytes_of sheet_a) (bytes_of (eng ∷ []) ++ 0 ∷ []) Accepted
    ∷ lent_bytes (bytes_of sheet_a) (21 ∷ []) (Broken 6 (Programme 0))
    -- 33: equal neighbours, falling ones, at the end of the list too; before rule 1 and before rule 6
    ∷ spoken eng eng (eng ∷ eng ∷ []) (Broken 33 Header)
    ∷ spoken eng eng ((eng + 1) ∷ eng ∷ []) (Broken 33 Header)
    ∷ spoken eng eng (1 ∷ eng ∷ (eng + 2) ∷ (eng + 1) ∷ []) (Broken 33 Header)
    ∷ spoken xqx xqx (2 ∷ 1 ∷ []) (Broken 33 Header)
    ∷ lent_bytes [] (0 ∷ 2 ∷ 0 ∷ 1 ∷ []) (Broken 33 Header)
    ∷ lent_bytes [] (0 ∷ 1 ∷ 0 ∷ 2 ∷ []) (Broken 1 Header)
    ∷ []

-- each of them has that verdict
pub language_cases_hold : map (λ (c : Case). verdict (sheet_of c.bytes) (words c.langs)) language_cases ≡ map (λ (c : Case). c.answer) language_cases
unfolding language_cases judged
language_cases_hold = refl
