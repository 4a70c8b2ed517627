use Rattle.std.proofs.Common.{refl, ◌+◌, arith}
use Rattle.languages.specs.steps.Pairs.{words_of}
use Rattle.languages.specs.steps.Search.{halves}
use Rattle.languages.proofs.PairLaws.{how_many_words}
use Rattle.languages.proofs.SearchLaws.{above_end}
use Rattle.languages.proofs.search.within_16.Goals as goal

pub narrow-requires-clause-halves : goal.narrow-requires-clause-halves
unfolding halves
narrow-requires-clause-halves c = refl

pub returns-else-pairs-gt16-clause-last : goal.returns-else-pairs-gt16-clause-last
returns-else-pairs-gt16-clause-last c =
    let from = c.within_512-from.result in
    (c.within_512-from.ensures.last.0, above_end (words_of c.args.pairs.now) c.args.w (from + 16) (omega (arith, how_many_words c.args.pairs.now, c.if-pairs-gt16.false)))
