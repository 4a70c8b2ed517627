-- 25 and 26, then what the words give. Assumes nothing.
use mathlib.Core.Path.{◌≡◌, refl}
use lib.ListN.{length}
use borrow.Author.Rules.{rules}
use Rattle.std.specs.Prelude.{Err}
use Rattle.sheet.specs.Words.{sheet_of, words}
use Rattle.listener.specs.Listing.{listed, buffered, buffered_by}
use Rattle.listener.proofs.ListedLaws.{listing_behind, listing_stopped}
use Rattle.listener.proofs.State.list.Goals as goal

pub returns-in_err-sound_answer : goal.returns-in_err-sound_answer
unfolding listed buffered buffered_by
returns-in_err-sound_answer c =
    let a = c.args in let r : c.from_residual.result ≡ Err c.in_err-sound_answer.field-0.0 = search rules in
    let e = listing_stopped (sheet_of a.s.now) (words a.langs.now) a.self (length a.buffer.now) _ c.sound_answer.ensures _ c.in_err-sound_answer.was in rw e (r, refl)

pub returns : goal.returns
unfolding listed buffered
returns c =
    let a = c.args in let e = listing_behind (sheet_of a.s.now) (words a.langs.now) a.self (length a.buffer.now) _ c.sound_answer.ensures c.in_ok-sound_answer.was in rw e c.write_listing.ensures
