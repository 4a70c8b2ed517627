-- The opening's answer is written, and then those to the lines. Assumes nothing.
use Rattle.std.proofs.Common.{rules}
use Rattle.std.specs.Io.KnownBytes.{Appends}
use Rattle.sheet.specs.Words.{sheet_of, words}
use Rattle.listener.specs.Calls.{opened}
use Rattle.text.proofs.AnsweringLaws.{part_written}
use Rattle.console.specs.Answers.{answer_line}
use Rattle.console.proofs.InputLaws.{opened_answered}
use Rattle.console.proofs.input.answer_lines.Goals as goal

pub returns : goal.returns
returns g c =
    let s = sheet_of c.args.lent.sheet.now in
    let langs = words c.args.lent.langs.now in
    let first : Appends (g.W.Write.contents c.args.output.now) (g.W.Write.contents c.write_all.new.self) (answer_line (opened s langs).answer) =
    part_written _ _ _ c.part.result.now _ (g.W.Write.contents c.args.output.now) (g.W.Write.contents c.write_all.new.self) c.opened-start.ensures.text_filled c.part.ensures (search rules) in
    search (rules, opened_answered s langs c.opened-start.result.state (g.I.Read.remaining c.args.input.now) (g.W.Write.contents c.args.output.now) (g.W.Write.contents c.write_all.new.self) (g.W.Write.contents c.answer_from.new.output) c.opened-start.ensures.state_value first)
