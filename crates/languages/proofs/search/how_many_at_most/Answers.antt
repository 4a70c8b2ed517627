use Rattle.std.proofs.Common.{◌≡◌, sym, ◌∙◌, length, ltb, leb, get_or, true, ◌&&◌, arith}
use Rattle.std.proofs.lemmas.Bool.{and_parts}
use borrow.Author.Tests.{ltb-true}
use Rattle.languages.specs.steps.Pairs.{words_of}
use Rattle.languages.proofs.PairLaws.{how_many_words}
use Rattle.languages.proofs.SearchLaws.{front}
use Rattle.languages.proofs.search.how_many_at_most.Goals as goal
use Rattle.languages.proofs.search.how_many_at_most.Goals.{Then-is_at_most}

-- the word there is one of them
here : (c : Then-is_at_most) → (ltb c.last_at_most-last.result (length (words_of c.args.pairs.now)) && leb (get_or (words_of c.args.pairs.now) c.last_at_most-last.result 0) c.args.w) ≡ true
here c = sym c.is_at_most.ensures ∙ c.if-is_at_most.true

pub returns-then-is_at_most-clause-within : goal.returns-then-is_at_most-clause-within
returns-then-is_at_most-clause-within c =
    let langs = words_of c.args.pairs.now in
    let inside = and_parts (ltb c.last_at_most-last.result (length langs)) (leb (get_or langs c.last_at_most-last.result 0) c.args.w) (here c) in
    omega (arith, how_many_words c.args.pairs.now, ltb-true _ _ inside.0)

pub returns-then-is_at_most-clause-front : goal.returns-then-is_at_most-clause-front
returns-then-is_at_most-clause-front c rises i l =
    front (words_of c.args.pairs.now) c.args.w c.last_at_most-last.result c.last_at_most-last.ensures.last.0 c.last_at_most-last.ensures.last.1 rises (here c) i (omega (arith, l))
