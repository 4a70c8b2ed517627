-- Document 01, "Sheet A, and around it": the proved cases (a) to (m), "a single table carrying one theorem". Assumes nothing.
use Rattle.std.specs.Prelude.{ℕ, ◌≡◌, refl, List, [], ◌∷◌, ◌++◌, map, take, drop, replicate}
use Rattle.sheet.specs.Layout.{offset, record_words, start}
use Rattle.sheet.specs.Words.{words, sheet_of, word}
use Rattle.sheet.specs.Fields.{contents, objects, packs, tracks, content_loudness, interact, object_gain, object_gain_minimum, object_gain_maximum, object_offset, pack_kind, pack_front, track_ordinal}
use Rattle.profile.specs.declared.Place.TheVariants.{Header, Content, Object, ValueSet}
use Rattle.profile.specs.declared.Verdict.{Verdict}
use Rattle.profile.specs.declared.Verdict.TheVariants.{Accepted, Broken}
use Rattle.profile.specs.Verdict.{verdict}
use Rattle.profile.specs.Judged.{judged}
use Rattle.profile.specs.Build.{put, bytes_of}

-- the bytes of a sheet and of the list of languages that is lent beside it, and the verdict that document 01 gives them
pub record Case : Type 0 where
  pub bytes : List ℕ
  pub langs : List ℕ
  pub answer : Verdict

-- document 02, L2: "The table of cases lends one with "eng""
unfoldable pub listed_eng : List ℕ
unfolding bytes_of
listed_eng = bytes_of (5575 ∷ [])

abbrev eng_case : List ℕ → Verdict → Case
eng_case bytes answer = record { bytes = bytes; langs = listed_eng; answer = answer }

-- "A, 52 words"
unfoldable pub sheet_a : List ℕ
sheet_a =
    (1 ∷ 1 ∷ 1 ∷ 16 ∷ 1 ∷ 24 ∷ 1 ∷ 29 ∷ 1 ∷ 45 ∷ 1 ∷ 48 ∷ 2 ∷ 50 ∷ 0 ∷ 52 ∷ [])
    ++ (5575 ∷ 0 ∷ 1 ∷ 0 ∷ 0 ∷ 0 ∷ 0 ∷ 1 ∷ [])
    ++ (5575 ∷ 0 ∷ 0 ∷ 0 ∷ 1 ∷ [])
    ++ (0 ∷ 1 ∷ 1 ∷ 0 ∷ 0 ∷ 0 ∷ 0 ∷ 0 ∷ replicate 6 32767 ++ (0 ∷ 0 ∷ []))
    ++ (1 ∷ 1 ∷ 0 ∷ [])
    ++ (0 ∷ 0 ∷ [])
    ++ (0 ∷ 0 ∷ [])

-- A's words with one changed
changed : ℕ → ℕ → ℕ → ℕ → List ℕ
changed section k at w = put section k at w sheet_a

-- (h) "pack 3 1 1, offset -300" but for the offset
front : ℕ → List ℕ
front w = put packs 0 pack_kind 3 (put packs 0 pack_front 1 (changed objects 0 object_offset w))

-- (k) "A with interact 1, range -60 to 60" and a gain
slider : ℕ → List ℕ
slider w = put objects 0 interact 1 (put objects 0 object_gain_minimum 65476 (put objects 0 object_gain_maximum 60 (changed objects 0 object_gain w)))

unfoldable pub cases : List Case
unfolding changed front slider sheet_a listed_eng bytes_of put start offset record_words word
cases =
    eng_case (bytes_of sheet_a) Accepted  -- (a)
    ∷ eng_case (bytes_of (changed tracks 0 track_ordinal 1)) (Broken 14 (Object 0))  -- (b) "ordinal 1"
    ∷ eng_case [] (Broken 1 Header)  -- (c) "no bytes"
    ∷ eng_case (take 103 (bytes_of sheet_a)) (Broken 1 Header)  -- (d) "103 bytes"
    ∷ eng_case (bytes_of (take 51 sheet_a)) (Broken 3 (ValueSet 0))  -- (e) "A without its last word, 3 section 7"
    ∷ eng_case (bytes_of (1 ∷ 3 ∷ drop 2 sheet_a)) (Broken 2 Header)  -- (f) "level 3"
    ∷ eng_case (bytes_of (changed contents 0 content_loudness 0)) (Broken 6 (Content 0))  -- (g) "content loudness 0"
    ∷ eng_case (bytes_of (front 65236)) Accepted  -- (h) "pack 3 1 1, offset -300"
    ∷ eng_case (bytes_of (front 65235)) (Broken 6 (Object 0))  -- (i) "offset -301"
    ∷ eng_case (bytes_of (changed objects 0 object_offset 0)) (Broken 17 (Object 0))  -- (j) "offset 0 in A"
    ∷ eng_case (bytes_of (slider 60)) Accepted  -- (k) "A with interact 1, range -60 to 60, gain 60"
    ∷ eng_case (bytes_of (slider 61)) (Broken 18 (Object 0))  -- (l) "gain 61"
    ∷ eng_case (bytes_of (slider 32768)) (Broken 18 (Object 0))  -- (m) "gain silence"
    ∷ []

-- each case has the verdict that document 01 gives it
pub cases_hold : map (λ (c : Case). verdict (sheet_of c.bytes) (words c.langs)) cases ≡ map (λ (c : Case). c.answer) cases
unfolding cases judged
cases_hold = refl
