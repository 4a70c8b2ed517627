-- Document 01, "Broken rules, in checking order": rules 1 to 24, each under its sentence, and document 02's rule 33. `ruleN s section k`
-- says that record k of the section breaks rule N; where the header or a section is the subject, k is 0 and is not read. Rules 33 and 6
-- ask the list of languages that is lent beside the sheet, `langs`. What a rule says of a sheet that breaks an earlier one does not
-- matter. Assumes nothing.
use Rattle.std.specs.Prelude.{ℕ, ◌+◌, ◌-◌, ◌%◌, Bool, not, ◌&&◌, ◌||◌, List, eqb, leb, ltb}
use Rattle.sheet.specs.Words.{Sheet, word_count}
use Rattle.sheet.specs.Layout.{edition, level, count, offset, end, field, first, number, entry}
use Rattle.sheet.specs.Fields.{programmes, contents, objects, packs, tracks, references, value_sets, programme_language, content_list, set_list, programme_labels, programme_loudness, content_language, content_object, content_labels, content_loudness, track_list, child_list, complement_list, interact, set_span, pack_kind, pack_channels, pack_front, track_pack, track_ordinal, set_gain, set_own}
use Rattle.values.specs.declared.Sort.{Sort}
use Rattle.values.specs.declared.Sort.TheVariants.{Gains, Offsets}
use Rattle.values.specs.Language.{loudness}
use Rattle.values.specs.Values.{is_absent, is_value, is_minimum, is_maximum, in_range}
use Rattle.profile.specs.Counting.{any, how_many, sum, two_of}
use Rattle.profile.specs.Languages.{good_language, is_rising}
use Rattle.profile.specs.Limits.{exceeds, programmes_limit, contents_limit, objects_limit, packs_limit, tracks_limit, programme_contents_limit, programme_sets_limit, labels_limit, children_limit, complements_limit, span_limit, channels_limit, groups_limit, units_limit, counted_limit}
use Rattle.profile.specs.Relations.{lists, times, pack_of, has_pack, has_children, has_objects_pack, has_front_pack, top, kind, leader, member, members, leader_of, includes, included, wholly_included, has_set, owner, named_set, names_set, object_value, object_minimum, object_maximum, set_value, set_minimum, set_maximum, own_value, effective_value, effective_minimum, effective_maximum, counted_tracks, groups, units, namings, channels, track_at}

-- Document 02, L2: "33, tested before rule 1 with the header as its place, the lent list isn't strictly rising"
unfoldable pub rule33 : Sheet → List ℕ → ℕ → ℕ → Bool
rule33 s langs section k = not (is_rising langs)

-- "1. The header: the sheet is under 32 bytes, over 65,534 bytes or odd."
unfoldable pub rule1 : Sheet → ℕ → ℕ → Bool
rule1 s section k = ltb s.bytes 32 || ltb 65534 s.bytes || eqb (s.bytes % 2) 1

-- "2. The header has an edition other than 1 or a level above 2."
unfoldable pub rule2 : Sheet → ℕ → ℕ → Bool
rule2 s section k = not (eqb (edition s) 1) || ltb 2 (level s)

-- "3. A section's offset isn't the end of the one before (16 for the first), or section 7 doesn't end with the sheet."
unfoldable pub rule3 : Sheet → ℕ → ℕ → Bool
rule3 s section k = not (eqb (offset s section) (end s (section - 1))) || eqb section 7 && not (eqb (end s 7) (word_count s))

-- "4. A record has a list or span with first plus count beyond its section, count 0 too."
unfoldable pub beyond : Sheet → ℕ → ℕ → ℕ → ℕ → Bool
beyond s target section k at = ltb (count s target) (first s section k at + number s section k at)

unfoldable pub rule4 : Sheet → ℕ → ℕ → Bool
rule4 s section k =
    eqb section programmes && (beyond s references section k content_list || beyond s references section k set_list || beyond s references section k programme_labels)
    || eqb section contents && beyond s references section k content_labels
    || eqb section objects
    && (beyond s references section k track_list || beyond s references section k child_list || beyond s references section k complement_list || beyond s value_sets section k set_span)

-- "5. A record, or an entry of its lists, names an index that its section lacks." The target section has no record x
unfoldable pub lacks : Sheet → ℕ → ℕ → Bool
lacks s target x = leb (count s target) x

-- an entry of the list at a position of a record names such an index
unfoldable pub list_lacks : Sheet → ℕ → ℕ → ℕ → ℕ → Bool
list_lacks s target section k at = any (λ i. lacks s target (entry s section k at i)) (number s section k at)

unfoldable pub rule5 : Sheet → ℕ → ℕ → Bool
rule5 s section k =
    eqb section programmes && (list_lacks s contents section k content_list || list_lacks s value_sets section k set_list)
    || eqb section contents && lacks s objects (field s contents k content_object)
    || eqb section objects
    && (has_pack s k && lacks s packs (pack_of s k) || list_lacks s tracks section k track_list || list_lacks s objects section k child_list || list_lacks s objects section k complement_list)
    || eqb section tracks && lacks s packs (field s tracks k track_pack)

-- "6. A record has a word, or a label, outside the values above, half a pair, or own 0 with a range word present." Document 02, L2: "a code
-- of three letters is good if listed, or from qaa to qtz (second letter a to t). Rule 6 refuses the others."
-- A label outside
unfoldable pub bad_label : Sheet → List ℕ → ℕ → ℕ → ℕ → Bool
bad_label s langs section k at = any (λ i. not (good_language langs (entry s section k at i))) (number s section k at)

-- language, labels and loudness of a programme or content
unfoldable pub bad_speech : Sheet → List ℕ → ℕ → ℕ → ℕ → ℕ → ℕ → Bool
bad_speech s langs section k language_at labels_at loudness_at =
    not (good_language langs (field s section k language_at)) || bad_label s langs section k labels_at || not (loudness (field s section k loudness_at))

-- a value and its range, of one sort: words outside, or half a pair ("a minimum and its maximum are both there or both absent"); each
-- word may be absent ("Nothing else may be absent but the pack.")
unfoldable pub bad_words : Sort → ℕ → ℕ → ℕ → Bool
bad_words t value minimum maximum =
    not (is_absent value || is_value t value)
    || not (is_absent minimum || is_minimum t minimum)
    || not (is_absent maximum || is_maximum t maximum)
    || (is_absent minimum && not (is_absent maximum) || not (is_absent minimum) && is_absent maximum)

unfoldable pub bad_object_words : Sheet → ℕ → Sort → Bool
bad_object_words s o t = bad_words t (field s objects o (object_value t)) (field s objects o (object_minimum t)) (field s objects o (object_maximum t))

unfoldable pub bad_set_words : Sheet → ℕ → Sort → Bool
bad_set_words s v t = bad_words t (field s value_sets v (set_value t)) (field s value_sets v (set_minimum t)) (field s value_sets v (set_maximum t))

-- a range word of that sort is present in an object, in a set
unfoldable pub object_range : Sheet → ℕ → Sort → Bool
object_range s o t = not (is_absent (field s objects o (object_minimum t))) || not (is_absent (field s objects o (object_maximum t)))

unfoldable pub set_range : Sheet → ℕ → Sort → Bool
set_range s v t = not (is_absent (field s value_sets v (set_minimum t))) || not (is_absent (field s value_sets v (set_maximum t)))

unfoldable pub bad_object : Sheet → ℕ → Bool
bad_object s o = ltb 1 (field s objects o interact) || bad_object_words s o Gains || bad_object_words s o Offsets

unfoldable pub bad_pack : Sheet → ℕ → Bool
bad_pack s k = not (eqb (field s packs k pack_kind) 1 || eqb (field s packs k pack_kind) 3) || ltb 1 (field s packs k pack_front)

unfoldable pub bad_set : Sheet → ℕ → Bool
bad_set s v =
    ltb 1 (field s value_sets v set_own)
    || bad_set_words s v Gains
    || bad_set_words s v Offsets
    || eqb (field s value_sets v set_own) 0 && (set_range s v Gains || set_range s v Offsets)

unfoldable pub rule6 : Sheet → List ℕ → ℕ → ℕ → Bool
rule6 s langs section k =
    eqb section programmes && bad_speech s langs section k programme_language programme_labels programme_loudness
    || eqb section contents && bad_speech s langs section k content_language content_labels content_loudness
    || eqb section objects && bad_object s k
    || eqb section packs && bad_pack s k
    || eqb section value_sets && bad_set s k

-- "7. A section's count is outside its limits (for section 4, kind 3 only)." "Minimum 1 for all but packs."
unfoldable pub outside : Sheet → ℕ → ℕ → Bool
outside s column n = ltb n 1 || exceeds s column n

unfoldable pub rule7 : Sheet → ℕ → ℕ → Bool
rule7 s section k =
    eqb section programmes && outside s programmes_limit (count s programmes)
    || eqb section contents && outside s contents_limit (count s contents)
    || eqb section objects && outside s objects_limit (count s objects)
    || eqb section packs && exceeds s packs_limit (how_many (λ i. eqb (field s packs i pack_kind) 3) (count s packs))
    || eqb section tracks && outside s tracks_limit (count s tracks)

-- "8. A record's list or span is outside its limits."
unfoldable pub rule8 : Sheet → ℕ → ℕ → Bool
rule8 s section k =
    eqb section programmes
    && (outside s programme_contents_limit (number s section k content_list) || exceeds s programme_sets_limit (number s section k set_list) || exceeds s labels_limit (number s section k programme_labels))
    || eqb section contents && exceeds s labels_limit (number s section k content_labels)
    || eqb section objects
    && (exceeds s children_limit (number s section k child_list) || exceeds s complements_limit (number s section k complement_list) || exceeds s span_limit (number s section k set_span))

-- "9. A programme or content has one label language twice." A list has one entry at two of its places
unfoldable pub repeats : Sheet → ℕ → ℕ → ℕ → Bool
repeats s section k at = two_of (λ i j. eqb (entry s section k at i) (entry s section k at j)) (number s section k at)

unfoldable pub rule9 : Sheet → ℕ → ℕ → Bool
rule9 s section k =
    eqb section programmes && repeats s section k programme_labels || eqb section contents && repeats s section k content_labels

-- "10. A pack of kind 3 hasn't 1 channel, or one of kind 1 has 0 or too many."
unfoldable pub rule10 : Sheet → ℕ → ℕ → Bool
rule10 s section k =
    eqb (field s packs k pack_kind) 3 && not (eqb (field s packs k pack_channels) 1)
    || eqb (field s packs k pack_kind) 1 && outside s channels_limit (field s packs k pack_channels)

-- "11. An object isn't named exactly once by all contents and child lists together, or a value set isn't in exactly one span."
unfoldable pub rule11 : Sheet → ℕ → ℕ → Bool
rule11 s section k =
    eqb section objects && not (eqb (namings s k) 1)
    || eqb section value_sets && not (eqb (how_many (λ o. has_set s o k) (count s objects)) 1)

-- "12. A programme names a content twice, or a content is in no programme."
unfoldable pub rule12 : Sheet → ℕ → ℕ → Bool
rule12 s section k =
    eqb section programmes && repeats s section k content_list
    || eqb section contents && not (any (λ p. lists s programmes p content_list k) (count s programmes))

-- "13. An object has both pack and children or neither, or a child without a pack of kind 3." "In 13 the place of a bad child is
-- its parent"
unfoldable pub rule13 : Sheet → ℕ → ℕ → Bool
rule13 s section o =
    has_pack s o && has_children s o
    || not (has_pack s o) && not (has_children s o)
    || any (λ i. not (has_objects_pack s (entry s objects o child_list i))) (number s objects o child_list)

-- "14. An object's tracks: not as many as its pack's channels (0 with children), one of another pack, or ordinals that aren't
-- each channel once."
unfoldable pub rule14 : Sheet → ℕ → ℕ → Bool
rule14 s section o =
    not (eqb (number s objects o track_list) (channels s o))
    || any (λ i. not (eqb (field s tracks (track_at s o i) track_pack) (pack_of s o))) (number s objects o track_list)
    || any (λ n. not (eqb (how_many (λ i. eqb (field s tracks (track_at s o i) track_ordinal) n) (number s objects o track_list)) 1)) (channels s o)

-- "15. An object that isn't top has complements, interact 1, sets, or any gain, offset or range."
unfoldable pub rule15 : Sheet → ℕ → ℕ → Bool
rule15 s section o =
    not (top s o)
    && (leader s o
    || eqb (field s objects o interact) 1
    || ltb 0 (number s objects o set_span)
    || not (is_absent (field s objects o (object_value Gains)))
    || not (is_absent (field s objects o (object_value Offsets)))
    || object_range s o Gains
    || object_range s o Offsets)

-- "16. An object with interact 0 has a range, or a set with own 1."
unfoldable pub rule16 : Sheet → ℕ → ℕ → Bool
rule16 s section o =
    eqb (field s objects o interact) 0
    && (object_range s o Gains
    || object_range s o Offsets
    || any (λ i. eqb (field s value_sets (first s objects o set_span + i) set_own) 1) (number s objects o set_span))

-- "17. An object, or a set of its, has an offset or offset range without a pack of kind 3 with front 1." "in 17 and 18 a breach
-- by a set has the set as its place"
unfoldable pub rule17 : Sheet → ℕ → ℕ → Bool
rule17 s section k =
    eqb section objects && (not (is_absent (field s objects k (object_value Offsets))) || object_range s k Offsets) && not (has_front_pack s k)
    || eqb section value_sets && (not (is_absent (field s value_sets k (set_value Offsets))) || set_range s k Offsets) && not (has_front_pack s (owner s k))

-- "18. An object's gain or offset (absent is 0) leaves its range, a set's effective one leaves the effective range, or a set's own
-- one leaves the object's range." A range that is absent has no bounds
unfoldable pub leaves : Sort → ℕ → ℕ → ℕ → Bool
leaves t value minimum maximum = not (is_absent minimum) && not (in_range t minimum value maximum)

unfoldable pub object_leaves : Sheet → ℕ → Sort → Bool
object_leaves s o t = leaves t (own_value s o t) (field s objects o (object_minimum t)) (field s objects o (object_maximum t))

-- set v of object o
unfoldable pub set_leaves : Sheet → ℕ → ℕ → Sort → Bool
set_leaves s o v t =
    leaves t (effective_value s o v t) (effective_minimum s o v t) (effective_maximum s o v t)
    || not (is_absent (field s value_sets v (set_value t)))
    && leaves t (field s value_sets v (set_value t)) (field s objects o (object_minimum t)) (field s objects o (object_maximum t))

unfoldable pub rule18 : Sheet → ℕ → ℕ → Bool
rule18 s section k =
    eqb section objects && (object_leaves s k Gains || object_leaves s k Offsets)
    || eqb section value_sets && (set_leaves s (owner s k) k Gains || set_leaves s (owner s k) k Offsets)

-- "19. An object lists a complement that isn't top, that itself lists some, or that complement lists name more than once."
unfoldable pub bad_complement : Sheet → ℕ → Bool
bad_complement s q = not (top s q) || leader s q || ltb 1 (sum (λ l. times s objects l complement_list q) (count s objects))

unfoldable pub rule19 : Sheet → ℕ → ℕ → Bool
rule19 s section o = any (λ i. bad_complement s (entry s objects o complement_list i)) (number s objects o complement_list)

-- "20. A leader differs from a member in interact, gain, offset, the four range words or kind." The seven words from interact on
unfoldable pub differs : Sheet → ℕ → ℕ → Bool
differs s l q = any (λ f. not (eqb (field s objects l (interact + f)) (field s objects q (interact + f)))) 7 || not (eqb (kind s l) (kind s q))

unfoldable pub rule20 : Sheet → ℕ → ℕ → Bool
rule20 s section o = any (λ i. differs s o (entry s objects o complement_list i)) (number s objects o complement_list)

-- "21. A programme includes some of a group, but neither one nor all."
unfoldable pub rule21 : Sheet → ℕ → ℕ → Bool
rule21 s section p =
    any (λ l. leader s l && not (eqb (included s p l) 0) && not (eqb (included s p l) 1) && not (wholly_included s p l)) (count s objects)

-- "22. A programme names a set of an object it doesn't include, two sets of one object (one set twice counts as two), sets for some
-- but not all of a wholly included group, or sets in one group that differ in any of seven words."
unfoldable pub owner_at : Sheet → ℕ → ℕ → ℕ
owner_at s p i = owner s (named_set s p i)

-- how many members of a leader's group the programme names a set for
unfoldable pub sets_named : Sheet → ℕ → ℕ → ℕ
sets_named s p l = how_many (λ i. names_set s p (member s l i)) (members s l)

-- the seven words from gain on
unfoldable pub sets_differ : Sheet → ℕ → ℕ → Bool
sets_differ s u v = any (λ f. not (eqb (field s value_sets u (set_gain + f)) (field s value_sets v (set_gain + f)))) 7

unfoldable pub rule22 : Sheet → ℕ → ℕ → Bool
rule22 s section p =
    any (λ i. not (includes s p (owner_at s p i))) (number s programmes p set_list)
    || two_of (λ i j. eqb (owner_at s p i) (owner_at s p j)) (number s programmes p set_list)
    || any (λ l. leader s l && wholly_included s p l && not (eqb (sets_named s p l) 0) && not (eqb (sets_named s p l) (members s l))) (count s objects)
    || two_of (λ i j. eqb (leader_of s (owner_at s p i)) (leader_of s (owner_at s p j)) && sets_differ s (named_set s p i) (named_set s p j)) (number s programmes p set_list)

-- "23. The header: one of the two group limits is exceeded."
unfoldable pub rule23 : Sheet → ℕ → ℕ → Bool
rule23 s section k = exceeds s groups_limit (groups s) || exceeds s units_limit (units s)

-- "24. The header: counted tracks exceed their limit."
unfoldable pub rule24 : Sheet → ℕ → ℕ → Bool
rule24 s section k = exceeds s counted_limit (counted_tracks s)
