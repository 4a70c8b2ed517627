use Rattle.text.proofs.BufferLaws.{appends_more}
use Rattle.console.proofs.PutLaws.{words_more}
use Rattle.console.proofs.answers.put_words.Goals as goal

pub loop-word-preserved : goal.loop-word-preserved
loop-word-preserved c =
    rw (words_more c.args.words.now c.loop-word.word-index c.loop-word-test.true)
    (appends_more _ _ _ _ _ c.loop-word.invariant (appends_more _ _ _ _ _ c.text.ensures (rw c.from.ensures at c.number.ensures)))
