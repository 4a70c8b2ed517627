-- Twice or more. Assumes nothing.
use Rattle.std.proofs.Common.{ℕ, suc, ◌-◌, ◌≡◌, sym, ap, ◌∙◌, arith}
use Rattle.tables.specs.steps.Marks.{counted_once, repeat}
use Rattle.tables.proofs.CoverLaws.{count_twice}
use Rattle.tables.proofs.coverage.counted_on.Goals as goal

pub returns-in_default : goal.returns-in_default
returns-in_default c = let e : c.args.times ≡ suc (suc (c.args.times - 2)) = omega arith in sym (ap (λ (n : ℕ). repeat counted_once n c.args.c) e ∙ count_twice (c.args.times - 2) c.args.c)
