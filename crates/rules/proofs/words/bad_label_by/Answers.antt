-- By the table, or by the list. Assumes nothing.
use Rattle.std.proofs.Common.{◌+◌, not}
use Rattle.sheet.specs.Words.{sheet_of}
use Rattle.sheet.specs.Layout.{reference, entry}
use Rattle.profile.specs.Counting.{any}
use Rattle.profile.specs.Languages.{good_language}
use Rattle.profile.specs.Rules.{bad_label}
use Rattle.rules.proofs.words.bad_label_by.Goals as goal

pub returns-in-Some : goal.returns-in-Some
unfolding bad_label entry
returns-in-Some c = λ right.
    let s = sheet_of c.args.s.now in
    c.look_up.ensures _ c.in-Some.is (λ x n. any (λ i. not (good_language c.args.langs.now (reference s (x + i)))) n) right
