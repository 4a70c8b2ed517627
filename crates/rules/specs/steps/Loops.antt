-- What the rules' functions compute that no rule's definition names; the sections that lists name records of. Assumes nothing.
use Rattle.std.specs.Prelude.{ℕ, ◌+◌, Bool, not, cond, ◌&&◌, eqb}
use Rattle.sheet.specs.Words.{Sheet}
use Rattle.sheet.specs.Layout.{count, field, first, number, entry}
use Rattle.sheet.specs.Fields.{programmes, contents, objects, tracks, value_sets, track_list, set_list, set_span, track_ordinal, set_own}
use Rattle.profile.specs.Counting.{any, how_many, sum, two_of}
use Rattle.profile.specs.Relations.{times, leader, leader_of, members, included, wholly_included, named_set, owner, channels, track_at}
use Rattle.profile.specs.Rules.{sets_named, sets_differ}

-- the two sections that lists of programmes, and lists of objects, name records of
unfoldable pub first_target : ℕ → ℕ
first_target section = cond (eqb section programmes) contents tracks

unfoldable pub second_target : ℕ → ℕ
second_target section = cond (eqb section programmes) value_sets objects

-- two entries of a list have the same key
unfoldable pub keys_alike : Sheet → ℕ → ℕ → ℕ → (ℕ → ℕ) → Bool
keys_alike s section k at key = two_of (λ i j. eqb (key (entry s section k at i)) (key (entry s section k at j))) (number s section k at)

-- two sets are of one group, and differ
abbrev pub differ_in_one_group : Sheet → ℕ → ℕ → Bool
differ_in_one_group s u v = eqb (leader_of s (owner s u)) (leader_of s (owner s v)) && sets_differ s u v

-- two sets that a programme names do
abbrev pub sets_differ_in_group : Sheet → ℕ → Bool
sets_differ_in_group s p = two_of (λ i j. differ_in_one_group s (named_set s p i) (named_set s p j)) (number s programmes p set_list)

-- a programme includes some of a leader's group, but neither one member nor all
abbrev pub splits : Sheet → ℕ → ℕ → Bool
splits s p l = leader s l && not (eqb (included s p l) 0) && not (eqb (included s p l) 1) && not (wholly_included s p l)

-- it includes the whole group, and names sets for some of it, but not all
abbrev pub partly_set : Sheet → ℕ → ℕ → Bool
partly_set s p l = leader s l && wholly_included s p l && not (eqb (sets_named s p l) 0) && not (eqb (sets_named s p l) (members s l))

-- two records of a section differ in one of the seven words from a position on
unfoldable pub fields_differ : Sheet → ℕ → ℕ → ℕ → ℕ → Bool
fields_differ s section from a b = any (λ f. not (eqb (field s section a (from + f)) (field s section b (from + f)))) 7

-- how often all lists at a position of the objects name x
unfoldable pub total_times : Sheet → ℕ → ℕ → ℕ
total_times s at x = sum (λ q. times s objects q at x) (count s objects)

-- some channel is not the ordinal of exactly one of the object's tracks
unfoldable pub bad_channel : Sheet → ℕ → Bool
bad_channel s o = any (λ n. not (eqb (how_many (λ i. eqb (field s tracks (track_at s o i) track_ordinal) n) (number s objects o track_list)) 1)) (channels s o)

-- some set of the object has own 1
unfoldable pub own_set : Sheet → ℕ → Bool
own_set s o = any (λ i. eqb (field s value_sets (first s objects o set_span + i) set_own) 1) (number s objects o set_span)
