-- The sheets on which the scripts of specs/Scripts.antt are played, built by the profile crate's builder. Assumes nothing.
use Rattle.std.specs.Prelude.{ℕ, ◌+◌, ◌-◌, List, [], ◌∷◌, ◌++◌, map, replicate, set}
use Rattle.sheet.specs.Fields.{tracks, track_ordinal}
use Rattle.profile.specs.Build.{build, put, bytes_of, absent, programme, content, plain, object, slider, leaf, below, speakers, front_pack, side_pack, channel_tracks, gain_row}

-- the word of a number below 0
abbrev minus : ℕ → ℕ
minus n = 65536 - n

-- the word of silence
abbrev silence : ℕ
silence = 32768

-- The play of examples/make_play.py but for its languages and labels. Object 0 is the bed, 1 to 3 are the narrators, a group whose
-- leader is 1, 4 is the rain, 5 the door. Programme 0 has all of them; programme 1 has the bed, narrator 2, and the rain with set 0
unfoldable pub play_words : List ℕ
play_words =
    build (record {
      level = 1;
      programmes = programme (below 6) [] ∷ programme (0 ∷ 2 ∷ 4 ∷ []) (0 ∷ []) ∷ [];
      contents = map content (below 6);
      objects =
          leaf 0 (0 ∷ 1 ∷ [])
          ∷ object 1 (2 ∷ []) [] (2 ∷ 3 ∷ []) (slider 0 (minus 60) 90) 0 0
          ∷ object 1 (3 ∷ []) [] [] (slider 0 (minus 60) 90) 0 0
          ∷ object 1 (4 ∷ []) [] [] (slider 0 (minus 60) 90) 0 0
          ∷ object 2 (5 ∷ []) [] [] (1 ∷ minus 30 ∷ minus 300 ∷ 60 ∷ 100 ∷ minus 300 ∷ 300 ∷ []) 0 1
          ∷ object 2 (6 ∷ []) [] [] (1 ∷ absent ∷ silence ∷ 0 ∷ minus 150 ∷ minus 300 ∷ 0 ∷ []) 0 0
          ∷ [];
      packs = speakers 2 ∷ front_pack ∷ front_pack ∷ [];
      tracks = channel_tracks 0 2 ++ replicate 3 (plain (1 ∷ 0 ∷ [])) ++ replicate 2 (plain (2 ∷ 0 ∷ []));
      sets = plain (minus 120 ∷ 1 ∷ minus 300 ∷ 0 ∷ absent ∷ 0 ∷ 200 ∷ []) ∷ [];
    })

unfoldable pub play : List ℕ
play = bytes_of play_words

-- the play with ordinal 1 at the German narrator's track: rule 14
unfoldable pub broken_play : List ℕ
broken_play = bytes_of (put tracks 3 track_ordinal 1 play_words)

-- the play at level 0: accepted there
unfoldable pub level_zero_play : List ℕ
level_zero_play = bytes_of (set play_words 1 0)

-- one object of gain 2.0 dB and range -12.0 dB to 12.0 dB, with four sets. Programme 0 names none, programme 1 to 4 set 0 to 3: one that says
-- nothing, one of own 1 without a range, one with a wider range, one with a gain and a narrower range down to silence
unfoldable pub ranges : List ℕ
ranges =
    bytes_of (build (record {
      level = 1;
      programmes = programme (0 ∷ []) [] ∷ map (λ v. programme (0 ∷ []) (v ∷ [])) (below 4);
      contents = content 0 ∷ [];
      objects = object 0 (0 ∷ []) [] [] (slider 20 (minus 120) 120) 0 4 ∷ [];
      packs = side_pack ∷ [];
      tracks = channel_tracks 0 1;
      sets =
          gain_row absent 0 absent absent
          ∷ gain_row absent 1 absent absent
          ∷ gain_row absent 1 (minus 600) 210
          ∷ gain_row (minus 40) 1 silence 0
          ∷ [];
    }))

-- a parent with a range, object 1, whose children are 3 and 0 in this order; object 2 is a bed of two channels. Each child has a track of the
-- same pack. Programme 0 has both top objects, programme 1 the parent alone
unfoldable pub family : List ℕ
family =
    bytes_of (build (record {
      level = 1;
      programmes = programme (0 ∷ 1 ∷ []) [] ∷ programme (1 ∷ []) [] ∷ [];
      contents = content 2 ∷ content 1 ∷ [];
      objects = leaf 0 (0 ∷ []) ∷ object 65535 [] (3 ∷ 0 ∷ []) [] (slider absent (minus 60) 60) 0 0 ∷ leaf 1 (3 ∷ 2 ∷ []) ∷ leaf 0 (1 ∷ []) ∷ [];
      packs = side_pack ∷ speakers 2 ∷ [];
      tracks = replicate 2 (plain (0 ∷ 0 ∷ [])) ++ channel_tracks 1 2;
      sets = [];
    }))

-- a group of two, 0 and its leader 1, on one track, beside a lone object on that track too; programme 0 has all three and names a set of gain
-- -5.0 dB for each of the group, programme 1 has the lone object alone
unfoldable pub pair : List ℕ
pair =
    bytes_of (build (record {
      level = 1;
      programmes = programme (below 3) (0 ∷ 1 ∷ []) ∷ programme (2 ∷ []) [] ∷ [];
      contents = map content (below 3);
      objects =
          object 0 (0 ∷ []) [] [] (slider absent (minus 60) 60) 0 1
          ∷ object 0 (0 ∷ []) [] (0 ∷ []) (slider absent (minus 60) 60) 1 1
          ∷ leaf 0 (0 ∷ [])
          ∷ [];
      packs = side_pack ∷ [];
      tracks = channel_tracks 0 1;
      sets = replicate 2 (gain_row (minus 50) 0 absent absent);
    }))

-- level 2: two beds, of 24 and 4 channels
unfoldable pub two_beds : List ℕ
two_beds =
    bytes_of (build (record {
      level = 2;
      programmes = programme (0 ∷ 1 ∷ []) [] ∷ [];
      contents = map content (below 2);
      objects = leaf 0 (below 24) ∷ leaf 1 (map (λ n. 24 + n) (below 4)) ∷ [];
      packs = speakers 24 ∷ speakers 4 ∷ [];
      tracks = channel_tracks 0 24 ++ channel_tracks 1 4;
      sets = [];
    }))
