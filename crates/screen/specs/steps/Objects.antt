-- What the screening tests of an object. Assumes nothing.
use Rattle.std.specs.Prelude.{ℕ, ◌+◌, Bool, false, not, ◌&&◌, ◌||◌, ◌≡◌, eqb, leb, ltb}
use Rattle.sheet.specs.Words.{Sheet}
use Rattle.sheet.specs.Layout.{count, offset, start, field, first, number}
use Rattle.sheet.specs.Fields.{objects, packs, tracks, references, value_sets, track_list, child_list, complement_list, interact, set_span, pack_channels}
use Rattle.values.specs.declared.Sort.{Sort}
use Rattle.values.specs.declared.Sort.TheVariants.{Gains, Offsets}
use Rattle.values.specs.Values.{is_absent}
use Rattle.profile.specs.Counting.{any}
use Rattle.profile.specs.Limits.{exceeds, children_limit, complements_limit, span_limit}
use Rattle.profile.specs.Relations.{has_pack, pack_of, has_front_pack, object_value, object_minimum, object_maximum}
use Rattle.profile.specs.Rules.{lacks, list_lacks, bad_object, bad_complement, differs, rule4, rule5, rule8, rule11, rule13, rule14, rule15, rule16, rule17, rule18, rule19, rule20}
use Rattle.lists.specs.steps.Entries.{bad_child_at, out_of_order_at}
use Rattle.screen.specs.steps.Values.{values_at, has_range, none_present, own_leaves, words_broken, set_broken}
use Rattle.relations.specs.declared.sets.Values.{Values}
use Rattle.screen.specs.declared.ObjectValues.{ObjectValues}

-- lists and a span that break rule 4 or 8
unfoldable pub object_lists_broken : Sheet → ℕ → Bool
object_lists_broken s o =
    ltb (count s references) (first s objects o track_list + number s objects o track_list)
    || ltb (count s references) (first s objects o child_list + number s objects o child_list)
    || ltb (count s references) (first s objects o complement_list + number s objects o complement_list)
    || ltb (count s value_sets) (first s objects o set_span + number s objects o set_span)
    || exceeds s children_limit (number s objects o child_list)
    || exceeds s complements_limit (number s objects o complement_list)
    || exceeds s span_limit (number s objects o set_span)

-- the value of a sort of an object whose words begin at an index, with its range
abbrev pub object_sort : Sheet → Sort → ℕ → Values
object_sort s t at = values_at s (at + object_value t) (at + object_minimum t) (at + object_maximum t)

-- the values of an object
unfoldable pub object_values : Sheet → ℕ → ObjectValues
object_values s o =
    record {
      interact = field s objects o interact;
      front = has_front_pack s o;
      gains = object_sort s Gains (start s objects o);
      offsets = object_sort s Offsets (start s objects o);
    }

-- a value of an object with its range that breaks rule 6, 16 or 18
unfoldable pub sort_broken : Sort → ObjectValues → Values → Bool
sort_broken t v values = words_broken t values || eqb v.interact 0 && has_range values || own_leaves t values

-- an offset with its range that breaks rule 6, 16, 17 or 18
unfoldable pub offsets_broken : ObjectValues → Bool
offsets_broken v = sort_broken Offsets v v.offsets || (not (is_absent v.offsets.value) || has_range v.offsets) && not v.front

-- values that break rule 6, 16, 17 or 18
unfoldable pub values_broken : ObjectValues → Bool
values_broken v = ltb 1 v.interact || sort_broken Gains v v.gains || offsets_broken v

-- an object without a pack: no children, or a track, or a child that is no object with a pack of kind 3
unfoldable pub children_broken : Sheet → ℕ → Bool
children_broken s o =
    eqb (number s objects o child_list) 0
    || not (eqb (number s objects o track_list) 0)
    || any (bad_child_at s (offset s references) (first s objects o child_list) (count s objects)) (number s objects o child_list)

-- an object with a pack: a child, no such pack, or tracks that are not the pack's channels in their order
unfoldable pub tracks_broken : Sheet → ℕ → ℕ → Bool
tracks_broken s o pack =
    ltb 0 (number s objects o child_list)
    || leb (count s packs) pack
    || not (eqb (number s objects o track_list) (field s packs pack pack_channels))
    || any (out_of_order_at s (offset s references) (first s objects o track_list) pack) (number s objects o track_list)

-- an object that keeps rules 13 and 14, and rule 5 by its pack, its tracks and its children
abbrev pub source_kept : Sheet → ℕ → Type 0
source_kept s o =
    ((has_pack s o && lacks s packs (pack_of s o)) ≡ false)
    × (list_lacks s tracks objects o track_list ≡ false)
    × (list_lacks s objects objects o child_list ≡ false)
    × (rule13 s objects o ≡ false)
    × (rule14 s objects o ≡ false)

-- an object that keeps rules 19 and 20, and rule 5 by its complements
abbrev pub complements_kept : Sheet → ℕ → Type 0
complements_kept s o = (list_lacks s objects objects o complement_list ≡ false) × (rule19 s objects o ≡ false) × (rule20 s objects o ≡ false)

-- a complement that breaks rule 19 or 20, or rule 5
unfoldable pub complement_broken : Sheet → ℕ → ℕ → Bool
complement_broken s l q = lacks s objects q || bad_complement s q || differs s l q

-- a set of an object breaks rule 6, 16, 17 or 18
unfoldable pub sets_broken : Sheet → ℕ → Bool
sets_broken s o = any (λ i. set_broken s (object_values s o) (start s value_sets (first s objects o set_span + i))) (number s objects o set_span)

-- an object without complements and sets, with interact 0 and no gain, offset or range; plain is our word
unfoldable pub is_plain : Sheet → ℕ → Bool
is_plain s o =
    eqb (number s objects o complement_list) 0
    && eqb (number s objects o set_span) 0
    && eqb (field s objects o interact) 0
    && none_present (object_sort s Gains (start s objects o))
    && none_present (object_sort s Offsets (start s objects o))

-- an object that keeps rules 6 and 15 to 20, with its sets, and rule 5 by its complements
abbrev pub rest_kept : Sheet → ℕ → Type 0
rest_kept s o =
    (values_broken (object_values s o) ≡ false)
    × (sets_broken s o ≡ false)
    × complements_kept s o
    × (rule15 s objects o ≡ false)

-- an object, or a set of its, breaks a rule up to 20
unfoldable pub object_broken : Sheet → ℕ → Bool
object_broken s o =
    rule4 s objects o
    || rule5 s objects o
    || bad_object s o
    || rule8 s objects o
    || rule11 s objects o
    || rule13 s objects o
    || rule14 s objects o
    || rule15 s objects o
    || rule16 s objects o
    || rule17 s objects o
    || rule18 s objects o
    || rule19 s objects o
    || rule20 s objects o
    || sets_broken s o
