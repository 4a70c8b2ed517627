-- A second table of cases: for each rule at least one sheet that breaks it first, beside accepted neighbours. They tell apart the
-- readings of docs/DECISIONS.md that are named at them. Assumes nothing.
use Rattle.std.specs.Prelude.{ℕ, ◌+◌, ◌≡◌, refl, List, [], ◌∷◌, ◌++◌, map, take, set, replicate}
use Rattle.sheet.specs.Words.{words, sheet_of}
use Rattle.sheet.specs.Fields.{programmes, contents, objects, packs, tracks, references, content_list, set_list, programme_labels, object_gain_minimum, pack_channels, pack_kind, track_pack}
use Rattle.profile.specs.declared.Place.TheVariants.{Header, Programme, Content, Object, Pack, Track, ValueSet}
use Rattle.profile.specs.declared.Verdict.{Verdict}
use Rattle.profile.specs.declared.Verdict.TheVariants.{Accepted, Broken}
use Rattle.profile.specs.Verdict.{verdict}
use Rattle.profile.specs.Judged.{judged}
use Rattle.profile.specs.Build.{Row, Parts, build, put, bytes_of, absent, eng, programme, content, object, still, slider, leaf, parent, below, speakers, front_pack, side_pack, channel_tracks, gain_row, plain, row_entries, row_words, section_words, section_entries, pairs}
use Rattle.profile.specs.Build.Part.{word, list}
use Rattle.profile.specs.Cases.{Case, sheet_a}

-- the list that this table lends: "eng" and the four words after it, of which some sheets have labels
unfoldable pub eng_five : List ℕ
unfolding bytes_of below
eng_five = bytes_of (map (λ n. eng + n) (below 5))

-- bytes, a sheet of parts, A with one word changed, each with its verdict
unfoldable pub case_of : List ℕ → Verdict → Case
case_of bytes v = record { bytes = bytes; langs = eng_five; answer = v }

unfoldable pub case : Parts → Verdict → Case
case p v = case_of (bytes_of (build p)) v

unfoldable pub case_a : ℕ → ℕ → ℕ → ℕ → Verdict → Case
case_a section k at w v = case_of (bytes_of (put section k at w sheet_a)) v

-- one content for each object of a list, one programme for each list of contents, no sets named
unfoldable pub sheet : List (List ℕ) → List ℕ → List Row → List Row → List Row → List Row → Parts
sheet plays tops things packs tracks sets =
    record { level = 1; programmes = map (λ cs. programme cs []) plays; contents = map content tops; objects = things; packs = packs; tracks = tracks; sets = sets }

-- one object with words and a set, and a pack of one track
unfoldable pub single : List ℕ → Row → Row → Parts
single words pack value_set = sheet ((0 ∷ []) ∷ []) (0 ∷ []) (object 0 (0 ∷ []) [] [] words 0 1 ∷ []) (pack ∷ []) (channel_tracks 0 1) (value_set ∷ [])

-- objects over one pack and track, of which the first is top
unfoldable pub scene : List Row → List Row → Parts
scene things sets = sheet ((0 ∷ []) ∷ []) (0 ∷ []) things (side_pack ∷ []) (channel_tracks 0 1) sets

-- three narrators as one group, with two words lists, the leader's and the others'; programme 0 has the contents given, programme 1 all
unfoldable pub narrators : List ℕ → List ℕ → List ℕ → List ℕ → List Row → Parts
narrators contents sets leading following value_sets =
    record {
      level = 1;
      programmes = programme contents sets ∷ programme (below 3) [] ∷ [];
      contents = map content (below 3);
      objects = object 0 (0 ∷ []) [] (1 ∷ 2 ∷ []) leading 0 1 ∷ object 0 (0 ∷ []) [] [] following 1 1 ∷ object 0 (0 ∷ []) [] [] following 2 1 ∷ [];
      packs = front_pack ∷ [];
      tracks = channel_tracks 0 1;
      sets = value_sets;
    }

-- beds of two packs of kind 1, in a group or not
unfoldable pub beds : ℕ → ℕ → List ℕ → Parts
beds first second complements =
    sheet ((0 ∷ 1 ∷ []) ∷ []) (0 ∷ 1 ∷ [])
    (object 0 (below first) [] complements still 0 0 ∷ leaf 1 (map (λ n. first + n) (below second)) ∷ [])
    (speakers first ∷ speakers second ∷ []) (channel_tracks 0 first ++ channel_tracks 1 second) []

-- programme and content with labels
unfoldable pub labelled : ℕ → List ℕ → List ℕ → Parts
labelled level ps cs =
    record {
      level = level;
      programmes = (word eng ∷ list (0 ∷ []) ∷ list [] ∷ list ps ∷ word 1 ∷ []) ∷ [];
      contents = (word eng ∷ word 0 ∷ list cs ∷ word 1 ∷ []) ∷ [];
      objects = leaf 0 (0 ∷ []) ∷ [];
      packs = speakers 1 ∷ [];
      tracks = channel_tracks 0 1;
      sets = [];
    }

-- a slider from -12.0 dB to 12.0 dB, no gain
abbrev wide : List ℕ
wide = slider absent 65416 120

-- a set that says nothing
abbrev silent_set : Row
silent_set = gain_row absent 0 absent absent

unfoldable pub rule_cases : List Case
unfolding eng_five case_of case case_a sheet single scene narrators beds labelled sheet_a build put bytes_of programme content object slider leaf parent below speakers front_pack side_pack channel_tracks gain_row plain row_entries row_words section_words section_entries pairs judged
rule_cases =
    -- 1
    case_of (bytes_of (take 15 sheet_a)) (Broken 1 Header)
    ∷ case_of (replicate 65536 0) (Broken 1 Header)
    -- 2
    ∷ case_of (bytes_of (set sheet_a 0 2)) (Broken 2 Header)
    -- 3: a gap behind section 1; sums are exact, 16 + 8 * 8193 is not 24
    ∷ case_of (bytes_of (set sheet_a 5 25)) (Broken 3 (Content 0))
    ∷ case_of (bytes_of (set sheet_a 2 8193)) (Broken 3 (Content 0))
    -- 4: an empty list may begin at the end of its section and no further; sums are exact here too
    ∷ case_a programmes 0 set_list 2 Accepted
    ∷ case_a programmes 0 set_list 3 (Broken 4 (Programme 0))
    ∷ case_of (bytes_of (put programmes 0 programme_labels 65535 (put programmes 0 (programme_labels + 1) 2 sheet_a))) (Broken 4 (Programme 0))
    -- 5: the place of a bad entry is the record that has the list; 65535 is a pack that section 4 lacks
    ∷ case_a references 0 0 1 (Broken 5 (Programme 0))
    ∷ case_a tracks 0 track_pack 65535 (Broken 5 (Track 0))
    -- 6: a bad label is its content's; half a pair; a maximum that is silence; own 0 with a range
    ∷ case (labelled 1 [] (31 ∷ [])) (Broken 6 (Content 0))
    ∷ case_a objects 0 object_gain_minimum 0 (Broken 6 (Object 0))
    ∷ case (single (slider absent 65416 32768) side_pack silent_set) (Broken 6 (Object 0))
    ∷ case (single wide side_pack (gain_row absent 0 65416 120)) (Broken 6 (ValueSet 0))
    -- 7: the minimums hold at level 0
    ∷ case (record { level = 0; programmes = []; contents = []; objects = []; packs = []; tracks = []; sets = [] }) (Broken 7 (Programme 0))
    -- 8: a programme has a content, at level 0 too, where labels have no maximum
    ∷ case_of (bytes_of (set (put programmes 0 (content_list + 1) 0 sheet_a) 1 0)) (Broken 8 (Programme 0))
    ∷ case (labelled 1 (map (λ n. eng + n) (below 5)) []) (Broken 8 (Programme 0))
    ∷ case (labelled 0 (map (λ n. eng + n) (below 5)) []) Accepted
    -- 9: any programme precedes any content
    ∷ case (labelled 1 [] (eng ∷ eng ∷ [])) (Broken 9 (Content 0))
    ∷ case (labelled 1 (eng ∷ eng ∷ []) (eng ∷ eng ∷ [])) (Broken 9 (Programme 0))
    -- 10
    ∷ case_a packs 0 pack_channels 13 (Broken 10 (Pack 0))
    ∷ case_of (bytes_of (put packs 0 pack_kind 3 (put packs 0 pack_channels 2 sheet_a))) (Broken 10 (Pack 0))
    -- 11: twice in one list is twice; any object precedes any set
    ∷ case (scene (parent (1 ∷ 1 ∷ []) ∷ leaf 0 (0 ∷ []) ∷ []) []) (Broken 11 (Object 1))
    ∷ case (scene (leaf 0 (0 ∷ []) ∷ []) (silent_set ∷ [])) (Broken 11 (ValueSet 0))
    ∷ case (scene (parent (1 ∷ 1 ∷ []) ∷ leaf 0 (0 ∷ []) ∷ []) (silent_set ∷ [])) (Broken 11 (Object 1))
    -- 12: any programme precedes any content
    ∷ case (sheet ((0 ∷ []) ∷ []) (0 ∷ 1 ∷ []) (leaf 0 (0 ∷ []) ∷ leaf 0 (0 ∷ []) ∷ []) (side_pack ∷ []) (channel_tracks 0 1) []) (Broken 12 (Content 1))
    ∷ case (sheet ((0 ∷ 0 ∷ []) ∷ []) (0 ∷ 1 ∷ []) (leaf 0 (0 ∷ []) ∷ leaf 0 (0 ∷ []) ∷ []) (side_pack ∷ []) (channel_tracks 0 1) []) (Broken 12 (Programme 0))
    -- 13: a child with both is the place itself; a child without a pack has its parent as the place
    ∷ case (scene (parent (1 ∷ []) ∷ object 0 (0 ∷ []) (2 ∷ []) [] still 0 0 ∷ leaf 0 (0 ∷ []) ∷ []) []) (Broken 13 (Object 1))
    ∷ case (scene (parent (1 ∷ []) ∷ parent (2 ∷ []) ∷ leaf 0 (0 ∷ []) ∷ []) []) (Broken 13 (Object 0))
    -- 14: as many tracks as channels, one of them twice
    ∷ case (sheet ((0 ∷ []) ∷ []) (0 ∷ []) (leaf 0 (0 ∷ 0 ∷ []) ∷ []) (speakers 2 ∷ []) (channel_tracks 0 2) []) (Broken 14 (Object 0))
    -- 15: a gain of 0 is a gain
    ∷ case (scene (parent (1 ∷ []) ∷ object 0 (0 ∷ []) [] [] (0 ∷ 0 ∷ replicate 5 absent) 0 0 ∷ []) []) (Broken 15 (Object 1))
    -- 16: a set with own 1 has its object as the place
    ∷ case (single still side_pack (gain_row absent 1 absent absent)) (Broken 16 (Object 0))
    -- 17: any object precedes any set
    ∷ case (single still side_pack (plain (absent ∷ 0 ∷ absent ∷ absent ∷ 0 ∷ absent ∷ absent ∷ []))) (Broken 17 (ValueSet 0))
    ∷ case (single (0 ∷ absent ∷ absent ∷ absent ∷ 0 ∷ absent ∷ absent ∷ []) side_pack (plain (absent ∷ 0 ∷ absent ∷ absent ∷ 0 ∷ absent ∷ absent ∷ []))) (Broken 17 (Object 0))
    -- 18: a set's own range may be wider than the object's, its own gain may not leave the object's, an inherited one not the set's
    ∷ case (single wide side_pack (gain_row 100 1 65336 200)) Accepted
    ∷ case (single wide side_pack (gain_row 150 1 65336 200)) (Broken 18 (ValueSet 0))
    ∷ case (single (slider 100 65416 120) side_pack (gain_row absent 1 65486 50)) (Broken 18 (ValueSet 0))
    -- 19: an object that lists itself
    ∷ case (scene (object 0 (0 ∷ []) [] (0 ∷ []) still 0 0 ∷ []) []) (Broken 19 (Object 0))
    -- 20: absent differs from 0
    ∷ case (narrators (below 3) [] wide wide (replicate 3 silent_set)) Accepted
    ∷ case (narrators (below 3) [] wide (slider 0 65416 120) (replicate 3 silent_set)) (Broken 20 (Object 0))
    -- 21: two of three
    ∷ case (narrators (2 ∷ []) [] wide wide (replicate 3 silent_set)) Accepted
    ∷ case (narrators (0 ∷ 2 ∷ []) [] wide wide (replicate 3 silent_set)) (Broken 21 (Programme 0))
    -- 22: sets for two of three; sets that differ, absent and 0; a set twice; a set of an object that is not included
    ∷ case (narrators (below 3) (below 3) wide wide (replicate 3 silent_set)) Accepted
    ∷ case (narrators (below 3) (0 ∷ 2 ∷ []) wide wide (replicate 3 silent_set)) (Broken 22 (Programme 0))
    ∷ case (narrators (below 3) (below 3) wide wide (silent_set ∷ gain_row 0 0 absent absent ∷ silent_set ∷ [])) (Broken 22 (Programme 0))
    ∷ case (narrators (2 ∷ []) (2 ∷ 2 ∷ []) wide wide (replicate 3 silent_set)) (Broken 22 (Programme 0))
    ∷ case (narrators (2 ∷ []) (0 ∷ []) wide wide (replicate 3 silent_set)) (Broken 22 (Programme 0))
    -- 23: seventeen lone objects at level 2
    ∷ case (record {
      level = 2;
      programmes = programme (below 17) [] ∷ [];
      contents = map content (below 17);
      objects = replicate 17 (leaf 0 (0 ∷ []));
      packs = side_pack ∷ [];
      tracks = channel_tracks 0 1;
      sets = [];
    }) (Broken 23 Header)
    -- 24: of a group the largest member counts
    ∷ case (beds 12 4 []) Accepted
    ∷ case (beds 12 5 []) (Broken 24 Header)
    ∷ case (beds 12 5 (1 ∷ [])) Accepted
    ∷ []

-- each of them has that verdict
pub rule_cases_hold : map (λ (c : Case). verdict (sheet_of c.bytes) (words c.langs)) rule_cases ≡ map (λ (c : Case). c.answer) rule_cases
unfolding rule_cases judged
rule_cases_hold = refl
