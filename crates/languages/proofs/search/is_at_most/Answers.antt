use Rattle.std.proofs.Common.{rules}
use borrow.Author.Tests.{lt-ltb}
use Rattle.languages.proofs.PairLaws.{how_many_words, number_at}
use Rattle.languages.proofs.search.is_at_most.Goals as goal

pub returns-in-Some : goal.returns-in-Some
returns-in-Some c =
    let seen = c.in-Some.ensures.lookup.3 in
    rw (how_many_words c.args.pairs.now, lt-ltb c.args.i _ seen.0, ← number_at c.args.pairs.now c.args.i c.in-Some.pair.now seen) (search rules)

pub returns-in-None : goal.returns-in-None
returns-in-None c = rw (how_many_words c.args.pairs.now) (search rules)
