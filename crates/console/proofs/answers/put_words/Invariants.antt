-- The words passed are put. Assumes nothing.
use lib.ListN.{take}
use Rattle.text.specs.Buffer.{Appends}
use Rattle.console.specs.Answers.{words_text}
use Rattle.console.proofs.answers.put_words.Given as goal

abbrev pub invariant-loop-word : goal.invariant-loop-word
invariant-loop-word l = Appends l.initial.text (words_text (take l.word-index l.words)) l.text
