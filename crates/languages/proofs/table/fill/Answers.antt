use Rattle.std.proofs.Common.{[], ◌≡◌, ◌<◌, ◌≤◌, refl, ◌∙◌, length, get_or, take, arith}
use Rattle.languages.specs.steps.Pairs.{words_of}
use Rattle.std.proofs.lemmas.List.{length-take-le}
use Rattle.languages.proofs.PairLaws.{front_word, how_many_words}
use Rattle.languages.proofs.TableLaws.{table_first, table_next, table_reserved, table_listed, table_good}
use Rattle.languages.proofs.table.fill.Goals as goal

pub loop-w-init : goal.loop-w-init
loop-w-init c = (refl, table_first 27483)

pub loop-w-preserved : goal.loop-w-preserved
loop-w-preserved c =
    let inside : c.loop-w.w < length c.loop-w.table = omega (arith, c.loop-w.invariant.0, c.loop-w-test.true) in
    (c.mark_code.array_long, rw c.mark_code.ensures (table_next c.loop-w.table c.loop-w.w inside c.loop-w.auto.w c.loop-w.invariant.1))

pub loop-pair-init : goal.loop-pair-init
loop-pair-init c =
    let end : c.loop-w.w ≡ 18080 = omega (arith, c.loop-w-test.false, c.loop-w.auto.w-end) in
    (c.loop-w.invariant.0, table_reserved (words_of c.args.pairs.now) c.loop-w.table (rw end at c.loop-w.invariant.1))

pub mark_code-requires-in-loop-pair : goal.mark_code-requires-in-loop-pair
mark_code-requires-in-loop-pair c =
    let n = c.loop-pair.pair-index in
    let word = front_word c.args.pairs.now c.how_many_at_most.result n [] c.how_many_at_most.ensures.within c.loop-pair-test.true in
    omega (arith, c.from_be_bytes.ensures ∙ word.1, c.how_many_at_most.ensures.front c.requires n word.0, c.loop-pair.invariant.0)

pub loop-pair-preserved : goal.loop-pair-preserved
loop-pair-preserved c =
    let langs = words_of c.args.pairs.now in
    let n = c.loop-pair.pair-index in
    let word = front_word c.args.pairs.now c.how_many_at_most.result n [] c.how_many_at_most.ensures.within c.loop-pair-test.true in
    let inside : get_or langs n 0 < length c.loop-pair.table = omega (arith, c.how_many_at_most.ensures.front c.requires n word.0, c.loop-pair.invariant.0) in (
      c.mark_code-in-loop-pair.array_long,
      rw (c.mark_code-in-loop-pair.ensures, c.from_be_bytes.ensures ∙ word.1) (table_listed langs c.loop-pair.table n inside c.loop-pair.invariant.1),
    )

pub returns : goal.returns
returns c =
    let pairs = c.args.pairs.now in
    let front = c.how_many_at_most.result in
    let whole : length (take front pairs) ≡ front = length-take-le front pairs c.how_many_at_most.ensures.within in
    let end : c.loop-pair.pair-index ≡ front = omega (arith, whole, c.loop-pair.auto.pair-index-end, c.loop-pair-test.false) in
    let inside : front ≤ length (words_of pairs) = omega (arith, how_many_words pairs, c.how_many_at_most.ensures.within) in
    table_good (words_of pairs) c.loop-pair.table front c.loop-pair.invariant.0 inside (c.how_many_at_most.ensures.rest c.requires) (rw end at c.loop-pair.invariant.1)
