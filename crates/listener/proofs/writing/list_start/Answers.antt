-- 25 and 27, then what the words give. Assumes nothing.
use mathlib.Core.Path.{sym, refl, ◌∙◌}
use lib.ListN.{length}
use Rattle.sheet.specs.Words.{sheet_of, words}
use Rattle.listener.specs.Listing.{buffered_by}
use Rattle.listener.specs.StartListing.{start_tracks, start_number, start_listed, start_buffered}
use Rattle.listener.proofs.StartedLaws.{start_closed, start_missing, start_steps}
use Rattle.listener.proofs.writing.list_start.Goals as goal

pub returns-then-not-opens : goal.returns-then-not-opens
unfolding start_listed start_buffered buffered_by
returns-then-not-opens c =
    let a = c.args in let e = start_closed (sheet_of a.s.now) (words a.langs.now) a.p (length a.buffer.now) (sym c.opens.ensures ∙ c.if-not-opens.true) in rw e (refl, refl)

pub returns-then-from-p : goal.returns-then-from-p
unfolding start_listed start_buffered buffered_by
returns-then-from-p c =
    let a = c.args in
    let e = start_missing (sheet_of a.s.now) (words a.langs.now) a.p (length a.buffer.now) (sym c.opens.ensures ∙ c.if-not-opens.false) (rw (← c.count.ensures, ← c.from.ensures) c.if-from-p.true) in rw e (refl, refl)

pub returns : goal.returns
unfolding start_listed start_buffered start_number start_tracks
returns c =
    let a = c.args in
    let e = start_steps (sheet_of a.s.now) (words a.langs.now) a.p (length a.buffer.now) (sym c.opens.ensures ∙ c.if-not-opens.false) (rw (← c.count.ensures, ← c.from.ensures) c.if-from-p.false) in
    rw e (rw c.started.ensures at c.write_listing.ensures)
