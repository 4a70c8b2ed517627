-- The number, or the refusal's. Assumes nothing.
use native.Mathlib.Omega.{arith}
use lib.ListN.{length}
use Rattle.sheet.specs.Words.{sheet_of, words}
use Rattle.listener.proofs.TakenLaws.{told_refusal, told_number}
use Rattle.host.specs.HostListing.{answer_code, host_listed}
use Rattle.host.proofs.HostLaws.{host_most, number_kept, number_negated}
use Rattle.host.proofs.listing.sheet_start_listing.Goals as goal

pub overflow_cast-result : goal.overflow_cast-result
overflow_cast-result c =
    let a = c.args in let t = told_number _ _ _ c.write_listing.ensures.0 _ c.in-Ok.is in
    record { sfits = omega (arith, t.1, host_most (sheet_of a.sheet.now) (words a.langs.now) a.programme (length a.buffer.now) t.0) }

pub returns-in-Ok : goal.returns-in-Ok
unfolding host_listed answer_code
returns-in-Ok c =
    let a = c.args in let t = told_number _ _ _ c.write_listing.ensures.0 _ c.in-Ok.is in
    let most = host_most (sheet_of a.sheet.now) (words a.langs.now) a.programme (length a.buffer.now) t.0 in
    (rw (t.0, t.1) (number_kept _ most), c.write_listing.ensures.1)

pub returns-in-Err : goal.returns-in-Err
unfolding host_listed answer_code
returns-in-Err c =
    let t = told_refusal _ _ _ c.write_listing.ensures.0 _ c.in-Err.is in
    (rw (t, c.from-in-Err.ensures, c.from.ensures) (number_negated c.in-Err.refusal), c.write_listing.ensures.1)
