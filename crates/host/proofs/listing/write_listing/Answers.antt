-- The listing on words, which are always enough, as bytes. Assumes nothing.
use mathlib.Core.Path.{◌≡◌, sym}
use native.Mathlib.Omega.{arith}
use lib.Seq.{length-take-le}
use borrow.Author.Rules.{rules}
use Rattle.std.specs.Prelude.{Err}
use Rattle.sheet.specs.Words.{sheet_of, words}
use Rattle.host.proofs.HostLaws.{told, told_refused, few_bytes, enough_bytes}
use Rattle.host.proofs.listing.write_listing.Goals as goal

pub returns-in_err-entries : goal.returns-in_err-entries
returns-in_err-entries c =
    let a = c.args in let l = c.list_start in let q = c.in_err-entries.field-0.0 in
    let r : c.from_residual.result ≡ Err q = search rules in
    rw r (told_refused (sheet_of a.sheet.now) (words a.langs.now) a.programme l.result l.new.buffer l.ensures.0 l.ensures.1 q a.buffer.now c.in_err-entries.was)

pub overflow_mul-n : goal.overflow_mul-n
overflow_mul-n c = let l = c.list_start in record { fits = omega (arith, (told _ _ _ _ _ l.ensures.0 l.ensures.1 _ c.in_ok-entries.was).most) }

pub returns-then-buffer-n : goal.returns-then-buffer-n
returns-then-buffer-n c = let l = c.list_start in few_bytes (told _ _ _ _ _ l.ensures.0 l.ensures.1 _ c.in_ok-entries.was) c.args.buffer.now c.if-buffer-n.true

pub slice_bounds-words-end : goal.slice_bounds-words-end
slice_bounds-words-end c = let l = c.list_start in let t = told _ _ _ _ _ l.ensures.0 l.ensures.1 _ c.in_ok-entries.was in omega (arith, t.most, t.long)

pub slice_bounds-write_words-end : goal.slice_bounds-write_words-end
slice_bounds-write_words-end c =
    let l = c.list_start in let t = told _ _ _ _ _ l.ensures.0 l.ensures.1 _ c.in_ok-entries.was in sym (length-take-le _ _ (omega (arith, t.most, t.long)))

pub returns : goal.returns
returns c =
    let l = c.list_start in rw c.write_words.ensures (enough_bytes (told _ _ _ _ _ l.ensures.0 l.ensures.1 _ c.in_ok-entries.was) c.args.buffer.now c.if-buffer-n.false)
