-- Section by section. Assumes nothing.
use Rattle.std.proofs.Common.{rules}
use Rattle.profile.proofs.SumLaws.{any_nowhere}
use Rattle.screen.proofs.records.records_pass.Goals as goal

pub returns : goal.returns
returns c =
    λ e t.
    record {
      programmes_kept = any_nowhere _ _ (λ k l. let p = c.all.ensures.each c.if-not-all.false k (rw c.count.ensures l) in search rules);
      contents_kept = any_nowhere _ _ (λ k l. let p = c.all-2.ensures.each c.if-not-all-2.false k (rw c.count-2.ensures l) in let right = t.1 in search rules);
      objects_kept = any_nowhere _ _ (λ k l. let p = c.all-3.ensures.each c.if-not-all-3.false k (rw c.count-3.ensures l) in let named = t.0 in let right = t.2 in search rules);
      packs_kept = any_nowhere _ _ (λ k l. let p = c.all-4.ensures.each c.if-not-all-4.false k (rw c.count-4.ensures l) in search rules);
      tracks_kept = any_nowhere _ _ (λ k l. let p = c.all-5.ensures.each e k (rw c.count-5.ensures l) in search rules);
    }
