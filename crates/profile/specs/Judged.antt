-- The verdict on lent bytes, a sheet and a list of languages, with every definition open, so that the cases compute. Assumes nothing.
use Rattle.std.specs.Prelude.{ℕ, List}
use Rattle.profile.specs.declared.Verdict.{Verdict}
use Rattle.sheet.specs.Words.{words, sheet_of, word, word_count}
use Rattle.sheet.specs.Layout.{count, offset, record_words, start, end, field, number, reference, entry}
use Rattle.values.specs.Signed.{signed_of}
use Rattle.values.specs.Gain.{gain_of, at_most, gain_in_range, legal_gain, legal_gain_minimum, legal_gain_maximum}
use Rattle.values.specs.Offset.{offset_in_range, legal_offset, legal_offset_minimum, legal_offset_maximum}
use Rattle.values.specs.Language.{letter, three_letters, loudness}
use Rattle.values.specs.Values.{is_absent, or_else, is_value, is_minimum, is_maximum, in_range}
use Rattle.profile.specs.Counting.{any, how_many, sum, largest, lowest_from, lowest, two_of}
use Rattle.profile.specs.Languages.{is_listed, is_reserved, good_language, is_rising}
use Rattle.profile.specs.Limits.{limits, limit, exceeds}
use Rattle.profile.specs.Relations.{lists, times, pack_of, has_pack, has_children, has_objects_pack, has_front_pack, top, kind, leader, complement, member, members, leader_of, lone, includes, included, wholly_included, has_set, owner, named_set, names_set, own_value, effective_value, effective_minimum, effective_maximum, size, share, counted_tracks, groups, units, namings, channels, track_at}
use Rattle.profile.specs.Rules.{rule1, rule2, rule3, beyond, rule4, lacks, list_lacks, rule5, bad_label, bad_speech, bad_words, bad_object_words, bad_set_words, object_range, set_range, bad_object, bad_pack, bad_set, rule6, outside, rule7, rule8, repeats, rule9, rule10, rule11, rule12, rule13, rule14, rule15, rule16, rule17, leaves, object_leaves, set_leaves, rule18, bad_complement, rule19, differs, rule20, rule21, owner_at, sets_named, sets_differ, rule22, rule23, rule24, rule33}
use Rattle.profile.specs.Verdict.{place_at, rules, rule_count, rule_at, number_at, position, breaks, subject_kind, subjects, broken_record, section_broken, broken_section, rule_broken, broken_position, broken_at, verdict}

-- the same verdict: what opens it opens all that it rests on
unfoldable pub judged : List ℕ → List ℕ → Verdict
unfolding words sheet_of word word_count count offset record_words start end field number reference entry signed_of gain_of at_most gain_in_range
    legal_gain legal_gain_minimum legal_gain_maximum offset_in_range legal_offset legal_offset_minimum legal_offset_maximum letter three_letters
    is_listed is_reserved good_language is_rising loudness
    is_absent or_else is_value is_minimum is_maximum in_range any how_many sum largest lowest_from lowest two_of limits limit exceeds lists times pack_of
    has_pack has_children has_objects_pack has_front_pack top kind leader complement member members leader_of lone includes included wholly_included
    has_set owner named_set names_set own_value effective_value effective_minimum effective_maximum size share counted_tracks groups units rule1 rule2
    rule3 beyond rule4 lacks list_lacks rule5 bad_label bad_speech bad_words bad_object_words bad_set_words object_range set_range bad_object bad_pack
    bad_set rule6 outside rule7 rule8 repeats rule9 rule10 namings rule11 rule12 rule13 channels track_at rule14 rule15 rule16 rule17 leaves
    object_leaves set_leaves rule18 bad_complement rule19 differs rule20 rule21 owner_at sets_named sets_differ rule22 rule23 rule24 rule33 place_at rules
    rule_count rule_at number_at position breaks subject_kind subjects broken_record section_broken broken_section rule_broken broken_position broken_at
    verdict
judged bytes langs = verdict (sheet_of bytes) (words langs)
