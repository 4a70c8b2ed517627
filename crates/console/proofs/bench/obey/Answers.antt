-- Each answer has room. Assumes nothing.
use native.Mathlib.Omega.{arith}
use Rattle.sheet.specs.Words.{sheet_of, words}
use Rattle.text.proofs.BufferLaws.{appends_fills}
use Rattle.console.proofs.AnswerLaws.{answer_to_fits}
use Rattle.console.proofs.ListingLaws.{listing_fits}
use Rattle.console.proofs.bench.obey.Goals as goal

pub returns-clause-text_filled : goal.returns-clause-text_filled
returns-clause-text_filled c =
    let new = c.new-text.ensures in
    let s = sheet_of c.args.lent.sheet.now in let langs = words c.args.lent.langs.now in
    appends_fills _ _ _ _ new.same_bytes new.empty c.put_answer_to-next.ensures.appended
    (omega (arith, answer_to_fits s langs c.args.state c.args.command (listing_fits s langs c.args.state)))
