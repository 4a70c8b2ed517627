-- The pair of bytes at an index makes the word there. Assumes nothing.
use Rattle.std.proofs.Common.{rules, ◌<◌, ◌≡◌, ◌∙◌, length, ◌/◌}
use Rattle.sheet.specs.Words.{sheet_of, word}
use Rattle.sheet.proofs.WordLaws as laws
use Rattle.sheet.proofs.words.word.Goals as goal

pub returns-in-Some : goal.returns-in-Some
unfolding sheet_of word
returns-in-Some c =
    let inside : c.args.i < length c.as_chunks.result.0.now = search rules in
    let few : c.args.i < length c.args.s.now / 2 = rw c.as_chunks.ensures.front_len at inside in
    c.from_be_bytes.ensures ∙ rw (c.in-Some.ensures.lookup.1, c.as_chunks.ensures.front) (laws.word_of_pair c.args.s.now c.args.i _ few)
