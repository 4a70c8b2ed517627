-- Member by member. Assumes nothing.
use Rattle.std.proofs.Common.{rules, ℕ, ◌+◌, ap, ◌∙◌, arith}
use Rattle.std.proofs.iter.runs.Sources.{range_runs}
use Rattle.sheet.specs.Words.{sheet_of}
use Rattle.sheet.specs.Layout.{entry}
use Rattle.sheet.specs.Fields.{objects, complement_list}
use Rattle.figures.specs.Clashes.{first_below}
use Rattle.figures.specs.Members.{leader_clash, member_clash}
use Rattle.figures.proofs.MappedLaws.{first_mapped}
use Rattle.figures.proofs.members.leader_clash.Goals as goal

pub returns : goal.returns
unfolding leader_clash
returns c =
    let s = sheet_of c.args.s.now in let run = c.find_map.ensures.runs in let up = rw run.1 at (range_runs run.0 run.0.seen) in
    first_mapped run.0 _ _ (λ (x : ℕ). x) (λ k. 0 + k) (λ i. member_clash s c.args.l (entry s objects c.args.l complement_list i)) c.number.result
    (λ a r q k. search rules) (omega (arith, up.0)) (λ w. omega (arith, up.1 w)) up.3 (λ k x r z called. search rules) _ run.2
    ∙ ap (first_below _) c.number.ensures
