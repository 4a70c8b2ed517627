-- By the listing. Assumes nothing.
use mathlib.Core.Path.{sym}
use lib.Seq.{length-take-le}
use Rattle.text.proofs.BufferLaws.{appends_join, appends_last}
use Rattle.console.specs.Answers.{tracks_line}
use Rattle.console.proofs.ListingLaws.{done_line, refused_line, listing_room}
use Rattle.console.proofs.answers.put_listing.Goals as goal

pub slice_bounds-words-end : goal.slice_bounds-words-end
slice_bounds-words-end c = listing_room _ _ _ _ _ c.list.ensures.0 c.list.ensures.1 _ c.in-Ok.is

pub slice_bounds-put_words-end : goal.slice_bounds-put_words-end
slice_bounds-put_words-end c = sym (length-take-le _ _ (listing_room _ _ _ _ _ c.list.ensures.0 c.list.ensures.1 _ c.in-Ok.is))

pub returns-in-Ok : goal.returns-in-Ok
unfolding tracks_line
returns-in-Ok c = rw (done_line _ _ _ _ _ c.list.ensures.0 c.list.ensures.1 _ c.in-Ok.is) (search (appends_join, appends_last))

pub returns-in-Err : goal.returns-in-Err
unfolding tracks_line
returns-in-Err c = rw (refused_line _ _ _ _ _ c.list.ensures.0 c.list.ensures.1 _ c.in-Err.is) c.put_answer.ensures
