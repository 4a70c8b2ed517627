-- A table of cases: sheets and the figures that each is told with, worked out by hand from document 02, L1, as the section, the record and the
-- number of each line. Assumes nothing.
use Rattle.std.specs.Prelude.{ℕ, ◌+◌, ◌-◌, ◌≡◌, refl, List, [], ◌∷◌, ◌++◌, map, replicate, ℤ, pos, negsuc}
use Rattle.sheet.specs.Words.{words, sheet_of}
use Rattle.sheet.specs.Fields.{objects, object_gain_minimum}
use Rattle.profile.specs.declared.Place.TheVariants.{Header, Object, ValueSet}
use Rattle.profile.specs.declared.Verdict.{Verdict}
use Rattle.profile.specs.declared.Verdict.TheVariants.{Accepted, Broken}
use Rattle.profile.specs.Verdict.{verdict}
use Rattle.profile.specs.Judged.{judged}
use Rattle.profile.specs.Build.{Row, Parts, build, put, bytes_of, absent, programme, content, object, still, slider, leaf, below, speakers, front_pack, side_pack, channel_tracks, gain_row, plain, row_entries, row_words, section_words, section_entries, pairs}
use Rattle.profile.specs.Cases.{listed_eng, sheet_a}
use Rattle.profile.specs.RuleCases.{sheet, single}
use Rattle.figures.specs.declared.Figure.{Figure}
use Rattle.figures.specs.Clashes.{printed, earlier, first_below}
use Rattle.figures.specs.Ranges.{ordered, below_minimum, bound_place, range_clash, object_clash, effective_place, range_place, effective_clash, own_clash, object_clashes, set_clashes, range_clashes}
use Rattle.figures.specs.Members.{word_clash, kind_clash, word_clashes, member_clash, leader_clash}
use Rattle.figures.specs.Shares.{has_share, share_figures, share_list}
use Rattle.figures.specs.Figures.{clash_figures, figures_of, figures_by, figures}
use Rattle.profile.specs.Counting.{concat_below}

-- "A line reads `section 3 record 0 figure -600`"
pub record Line : Type 0 where
  pub section : ℕ
  pub index : ℕ
  pub number : ℤ

abbrev pub line : ℕ → ℕ → ℤ → Line
line section index number = record { section = section; index = index; number = number }

-- the line of a figure
abbrev pub line_of : Figure → Line
line_of x = line x.section x.index (printed x.number)

-- a number below 0, and the word that it is in a sheet
abbrev pub minus : ℕ → ℤ
minus n = negsuc (n - 1)

abbrev pub minus_word : ℕ → ℕ
minus_word n = 65536 - n

-- a sheet, its verdict and its lines
pub record Told : Type 0 where
  pub bytes : List ℕ
  pub answer : Verdict
  pub lines : List Line

-- the list that this table lends: "eng", the language of its sheets
abbrev pub lent : List ℕ
lent = words listed_eng

-- and those that the definitions give the bytes
abbrev pub told_on : List ℕ → Told
told_on bytes = record { bytes = bytes; answer = verdict (sheet_of bytes) lent; lines = map line_of (figures (sheet_of bytes) lent) }

unfoldable pub case : Parts → Verdict → List Line → Told
case p v lines = record { bytes = bytes_of (build p); answer = v; lines = lines }

-- an object with a gain range from -12.0 dB to 12.0 dB and an offset range from -3.0 to 3.0 degrees, with a gain and an offset
abbrev ranged : ℕ → ℕ → List ℕ
ranged gain offset = 1 ∷ gain ∷ minus_word 120 ∷ 120 ∷ offset ∷ minus_word 30 ∷ 30 ∷ []

-- a set whose words are absent
abbrev absent_set : Row
absent_set = gain_row absent 0 absent absent

-- a leader and two members with their words; the leader lists them in the order given
unfoldable pub trio : List ℕ → List ℕ → List ℕ → List ℕ → Parts
trio order first second third =
    sheet (below 3 ∷ []) (below 3)
    (object 0 (0 ∷ []) [] order first 0 0 ∷ object 0 (0 ∷ []) [] [] second 0 0 ∷ object 0 (0 ∷ []) [] [] third 0 0 ∷ [])
    (front_pack ∷ []) (channel_tracks 0 1) []

-- a leader with a pack of kind 3 and a member with one of kind 1
unfoldable pub kinds : Parts
kinds =
    sheet (below 2 ∷ []) (below 2) (object 0 (0 ∷ []) [] (1 ∷ []) still 0 0 ∷ leaf 1 (1 ∷ []) ∷ []) (side_pack ∷ speakers 1 ∷ [])
    (channel_tracks 0 1 ++ channel_tracks 1 1) []

-- a member of 12 tracks, a lone object of 5 and the member's leader, of 2
unfoldable pub crowd : Parts
crowd =
    sheet (below 3 ∷ []) (below 3)
    (leaf 0 (below 12) ∷ leaf 1 (map (λ n. 12 + n) (below 5)) ∷ object 2 (17 ∷ 18 ∷ []) [] (0 ∷ []) still 0 0 ∷ [])
    (speakers 12 ∷ speakers 5 ∷ speakers 2 ∷ []) (channel_tracks 0 12 ++ channel_tracks 1 5 ++ channel_tracks 2 2) []

unfoldable pub cases : List Told
unfolding case trio kinds crowd sheet single sheet_a build put bytes_of programme content object slider leaf below speakers front_pack side_pack channel_tracks gain_row plain row_entries row_words section_words section_entries pairs judged
cases =
    -- 18: "the value, then the bound"; an object's gain below its minimum, silence below it, an offset above its maximum
    case (single (slider (minus_word 130) (minus_word 120) 120) side_pack absent_set) (Broken 18 (Object 0)) (line 3 0 (minus 130) ∷ line 3 0 (minus 120) ∷ [])
    ∷ case (single (slider 32768 (minus_word 120) 120) side_pack absent_set) (Broken 18 (Object 0)) (line 3 0 (minus 32768) ∷ line 3 0 (minus 120) ∷ [])
    ∷ case (single (ranged absent 31) front_pack absent_set) (Broken 18 (Object 0)) (line 3 0 (pos 31) ∷ line 3 0 (pos 30) ∷ [])
    -- "gain before offset"
    ∷ case (single (ranged 130 31) front_pack absent_set) (Broken 18 (Object 0)) (line 3 0 (pos 130) ∷ line 3 0 (pos 120) ∷ [])
    -- the object's gain, which the set has not, against the set's own range; the set's gain against the object's range
    ∷ case (single (slider 100 (minus_word 120) 120) side_pack (gain_row absent 1 (minus_word 50) 50)) (Broken 18 (ValueSet 0)) (line 3 0 (pos 100) ∷ line 7 0 (pos 50) ∷ [])
    ∷ case (single (slider absent (minus_word 120) 120) side_pack (gain_row (minus_word 150) 1 (minus_word 200) 200)) (Broken 18 (ValueSet 0)) (line 7 0 (minus 150) ∷ line 3 0 (minus 120) ∷ [])
    -- "in the rule's order": an effective offset outside the effective range comes before a gain of its own outside the object's
    ∷ case (single (ranged absent absent) front_pack (plain (150 ∷ 1 ∷ minus_word 200 ∷ 200 ∷ 25 ∷ minus_word 20 ∷ 20 ∷ []))) (Broken 18 (ValueSet 0)) (line 7 0 (pos 25) ∷ line 7 0 (pos 20) ∷ [])
    -- 20: "the leader's, then the member's unequal word or kind": interact; gain, absent and 0; offset before the four range words; kind
    ∷ case (trio (1 ∷ 2 ∷ []) still (1 ∷ replicate 6 absent) still) (Broken 20 (Object 0)) (line 3 0 (pos 0) ∷ line 3 1 (pos 1) ∷ [])
    ∷ case (trio (1 ∷ 2 ∷ []) (ranged absent absent) (ranged 0 5) (ranged absent absent)) (Broken 20 (Object 0)) (line 3 0 (pos 32767) ∷ line 3 1 (pos 0) ∷ [])
    ∷ case (trio (1 ∷ 2 ∷ []) (ranged 0 0) (1 ∷ 0 ∷ minus_word 130 ∷ 120 ∷ minus_word 5 ∷ minus_word 30 ∷ 30 ∷ []) (ranged 0 0)) (Broken 20 (Object 0)) (line 3 0 (pos 0) ∷ line 3 1 (minus 5) ∷ [])
    ∷ case kinds (Broken 20 (Object 0)) (line 3 0 (pos 3) ∷ line 3 1 (pos 1) ∷ [])
    -- the second member alone; "by member in list order", which need not rise
    ∷ case (trio (1 ∷ 2 ∷ []) (ranged 0 0) (ranged 0 0) (ranged 7 0)) (Broken 20 (Object 0)) (line 3 0 (pos 0) ∷ line 3 2 (pos 7) ∷ [])
    ∷ case (trio (2 ∷ 1 ∷ []) (ranged 0 0) (ranged 5 0) (ranged 0 9)) (Broken 20 (Object 0)) (line 3 0 (pos 0) ∷ line 3 2 (pos 9) ∷ [])
    -- 24: "each group's (under its leader) and lone object's share by rising record"
    ∷ case crowd (Broken 24 Header) (line 3 1 (pos 5) ∷ line 3 2 (pos 12) ∷ [])
    -- "For any other verdict it prints the verdict line only"
    ∷ record { bytes = bytes_of sheet_a; answer = Accepted; lines = [] }
    ∷ record { bytes = bytes_of (put objects 0 object_gain_minimum 0 sheet_a); answer = Broken 6 (Object 0); lines = [] }
    ∷ []

-- each of them has that verdict and those lines
pub cases_hold : map (λ (c : Told). told_on c.bytes) cases ≡ cases
unfolding cases listed_eng judged earlier first_below ordered below_minimum bound_place range_clash object_clash effective_place range_place effective_clash own_clash
    object_clashes set_clashes range_clashes word_clash kind_clash word_clashes member_clash leader_clash has_share share_figures share_list concat_below
    clash_figures figures_of figures_by figures
cases_hold = refl
