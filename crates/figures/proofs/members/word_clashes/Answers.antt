-- Word by word. Assumes nothing.
use Rattle.std.proofs.Common.{rules, ℕ, Bor}
use Rattle.sheet.specs.Words.{sheet_of}
use Rattle.figures.specs.Members.{compared_at, compared_count, word_clash, word_clashes}
use Rattle.figures.proofs.MappedLaws.{first_mapped}
use Rattle.figures.proofs.members.word_clashes.Goals as goal

pub returns : goal.returns
unfolding word_clashes
returns c =
    let run = c.find_map.ensures.runs in let items = rw (run.1, c.iter.ensures.rest) at (c.iter.ensures.runs run.0 run.0.seen) in
    first_mapped run.0 _ _ (λ (x : Bor ℕ). x.now) compared_at (λ i. word_clash (sheet_of c.args.s.now) c.args.l c.args.q (compared_at i)) compared_count
    (λ a r q k. search rules) items.0 items.1 (λ k l. items.2 k 0 l) (λ k x r z called. search rules) _ run.2
