-- The tables are right, and the pass tells the rest. Assumes nothing.
use Prim.Native.Nat.{ℕ}
use mathlib.Core.Path.{◌∙◌}
use native.Mathlib.Omega.{arith}
use lib.ListN.{replicate}
use lib.Seq.{length-take-le}
use Rattle.sheet.specs.Words.{sheet_of}
use Rattle.tables.specs.declared.Naming.TheVariants.{SetSpans}
use Rattle.tables.proofs.MarkLaws.{nought}
use Rattle.checker.proofs.SearchLaws.{firsts_made}
use Rattle.checker.proofs.groups.kept_programmes.Goals as goal

pub returns : goal.returns
returns c =
    λ apart.
    let m = c.from-m.result in let objects = c.from-m.ensures ∙ c.count.ensures in let owners = c.first_namers in let leaders = c.first_namers-2 in let full = length-take-le {A = ℕ} m (replicate 2048 0) (omega (arith, c.if-m-gt2048.false)) ∙ objects in
    c.kept_from.ensures.kept (
      firsts_made (sheet_of c.args.s.now) (replicate 4680 0) owners.new.table (λ x h. nought 4680 x) owners.ensures.0 SetSpans owners.ensures.1,
      c.fill_alike.ensures.1 (λ x h. nought 4680 x),
      λ f. c.sets_once.ensures c.if-not-sets_once.false,
    ) (length-take-le m leaders.new.table (omega (arith, c.if-m-gt2048.false, leaders.ensures.0)) ∙ objects, full, full) apart (λ q h. absurd (omega (arith, h)))
