-- What the tests of a programme or content say of the rules. Assumes nothing.
use Prim.Native.Nat.{ℕ, ◌+◌}
use mathlib.Core.Path.{◌≡◌}
use mathlib.Core.List.{List}
use mathlib.Core.Bool.{Bool, false, ◌||◌}
use lib.Dec.{leb, ltb}
use Rattle.sheet.specs.Words.{Sheet, word}
use Rattle.sheet.specs.Layout.{count, field, number, start, entry, reference}
use Rattle.sheet.specs.Fields.{programmes, contents, objects, references, value_sets, content_language, content_object, content_labels, content_loudness, programme_language, content_list, set_list, programme_labels, programme_loudness}
use Rattle.profile.specs.Limits.{exceeds, labels_limit, programme_contents_limit, programme_sets_limit}
use Rattle.profile.specs.Rules.{rule4, rule5, rule6, rule8, rule9, beyond, lacks, list_lacks, bad_speech, bad_label, repeats, outside}
use Rattle.profile.proofs.BoolLaws.{or_false, or_none_3, or_none_4}
use Rattle.lists.specs.steps.Entries.{entry_at, lacking_at, no_language_at, same_at}
use Rattle.lists.specs.steps.Speech.{speech_broken, content_broken, programme_lists_broken, programme_broken}

-- an or of six that fails
or_none_6 : (a b c d e f : Bool) → (a || b || c || d || e || f) ≡ false → (a ≡ false) × (b ≡ false) × (c ≡ false) × (d ≡ false) × (e ≡ false) × (f ≡ false)
or_none_6 a b c d e f h =
    let l = or_none_3 (a || b || c || d) e f h in
    let m = or_none_4 a b c d l.0 in
    (m.0, m.1, m.2, m.3, l.1, l.2)

-- the words of a content at their places
pub content_kept : (s : Sheet) (langs : List ℕ) (k : ℕ) {at lang object first n loud : ℕ} → at ≡ start s contents k → lang ≡ word s (at + content_language) → object ≡ word s (at + content_object) → first ≡ word s (at + content_labels) → n ≡ word s (at + (content_labels + 1))
    → loud ≡ word s (at + content_loudness) → speech_broken s langs lang first n loud ≡ false → leb (count s objects) object ≡ false → content_broken s langs k ≡ false
unfolding speech_broken content_broken rule4 beyond rule5 lacks rule6 bad_speech bad_label rule8 rule9 repeats number field entry reference entry_at no_language_at same_at
content_kept s langs k a e0 e1 e2 e3 e4 p q = let f = rw (e1, a) at q in simp (f, or_false) (rw (e0, e2, e3, e4, a) at p)

-- the words of a programme at their places
programme_words_kept : (s : Sheet) (langs : List ℕ) (k : ℕ) → speech_broken s langs (word s (start s programmes k + programme_language)) (word s (start s programmes k + programme_labels)) (word s (start s programmes k + 6)) (word s (start s programmes k + programme_loudness)) ≡ false
    → programme_lists_broken s (word s (start s programmes k + 1)) (word s (start s programmes k + 2)) (word s (start s programmes k + 3)) (word s (start s programmes k + 4)) ≡ false → programme_broken s langs k ≡ false
unfolding speech_broken programme_lists_broken programme_broken rule4 beyond rule5 lacks list_lacks rule6 bad_speech bad_label rule8 rule9 repeats number field entry reference entry_at lacking_at no_language_at same_at
programme_words_kept s langs k e f =
    let p = or_none_4 (ltb (count s references) (word s (start s programmes k + 5) + word s (start s programmes k + 6))) (bad_speech s langs programmes k programme_language programme_labels programme_loudness) (exceeds s labels_limit (word s (start s programmes k + 6))) (repeats s programmes k programme_labels) e in
    let q = or_none_6
    (ltb (count s references) (word s (start s programmes k + 1) + word s (start s programmes k + 2)))
    (ltb (count s references) (word s (start s programmes k + 3) + word s (start s programmes k + 4)))
    (outside s programme_contents_limit (word s (start s programmes k + 2)))
    (exceeds s programme_sets_limit (word s (start s programmes k + 4)))
    (list_lacks s contents programmes k content_list)
    (list_lacks s value_sets programmes k set_list)
    f in
    simp (p.0, p.1, p.2, p.3, q.0, q.1, q.2, q.3, q.4, q.5, or_false)

pub programme_kept : (s : Sheet) (langs : List ℕ) (k : ℕ) {at lang first n from sets labels m loud : ℕ} → at ≡ start s programmes k → lang ≡ word s (at + programme_language) → first ≡ word s (at + content_list) → n ≡ word s (at + (content_list + 1))
    → from ≡ word s (at + set_list) → sets ≡ word s (at + (set_list + 1)) → labels ≡ word s (at + programme_labels) → m ≡ word s (at + (programme_labels + 1)) → loud ≡ word s (at + programme_loudness)
    → speech_broken s langs lang labels m loud ≡ false → programme_lists_broken s first n from sets ≡ false → programme_broken s langs k ≡ false
programme_kept s langs k a e0 e1 e2 e3 e4 e5 e6 e7 p q = programme_words_kept s langs k (rw (e0, e5, e6, e7, a) at p) (rw (e1, e2, e3, e4, a) at q)
