use Rattle.std.proofs.Common.{refl, arith}
use Rattle.languages.specs.steps.Pairs.{words_of}
use Rattle.languages.specs.steps.Search.{halves}
use Rattle.languages.proofs.PairLaws.{how_many_words}
use Rattle.languages.proofs.SearchLaws.{above_end, above_first}
use Rattle.languages.proofs.search.within_512.Goals as goal

pub narrow-requires-clause-halves : goal.narrow-requires-clause-halves
unfolding halves
narrow-requires-clause-halves c = refl

pub returns-then-pairs-gt512-clause-last : goal.returns-then-pairs-gt512-clause-last
returns-then-pairs-gt512-clause-last c = c.narrow.ensures.last (λ k. absurd (omega (arith, k))) (above_first (words_of c.args.pairs.now) c.args.w c.ranges.w.fits)

pub returns-else-pairs-gt512-clause-last : goal.returns-else-pairs-gt512-clause-last
returns-else-pairs-gt512-clause-last c =
    (λ k. absurd (omega (arith, k)), above_end (words_of c.args.pairs.now) c.args.w 512 (omega (arith, how_many_words c.args.pairs.now, c.if-pairs-gt512.false)))
