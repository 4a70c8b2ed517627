use Rattle.std.proofs.Common.{rules, ◌≡◌, ◌∙◌, get_or}
use Rattle.languages.specs.steps.Pairs.{words_of}
use Rattle.languages.proofs.PairLaws.{how_many_words, number_at}
use Rattle.languages.proofs.SearchLaws.{found_or_nowhere, nowhere}
use Rattle.languages.proofs.search.finds.Goals as goal

pub returns-in-Some : goal.returns-in-Some
returns-in-Some c rises =
    let langs = words_of c.args.pairs.now in
    let seen = c.in-Some.ensures.lookup.3 in
    let here : c.from_be_bytes.result ≡ get_or langs c.last_at_most.result 0 = c.from_be_bytes.ensures ∙ number_at c.args.pairs.now c.last_at_most.result c.in-Some.pair.now seen in
    rw here (found_or_nowhere langs c.args.w c.last_at_most.result c.last_at_most.ensures.last.0 c.last_at_most.ensures.last.1 rises (rw (how_many_words c.args.pairs.now) seen.0))

pub returns-in-None : goal.returns-in-None
returns-in-None c rises =
    let langs = words_of c.args.pairs.now in
    nowhere langs c.args.w c.last_at_most.result c.last_at_most.ensures.last.0 c.last_at_most.ensures.last.1 rises (rw (how_many_words c.args.pairs.now) (search rules))
