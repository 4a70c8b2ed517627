use Prim.Native.Nat.{◌+◌, ◌≤◌}
use mathlib.Core.Path.{◌≡◌}
use lib.Dec.{eqb}
use lib.ListN.{length}
use native.Mathlib.Omega.{arith}
use borrow.Author.Rules.{rules}
use Rattle.std.proofs.lemmas.Iterator.{YieldsList-from_slice}
use Rattle.std.proofs.lemmas.Iterator.Search.{position_from_yields_List}
use Rattle.text.specs.Lines.{line_end}
use Rattle.text.proofs.LineLaws.{ends_at}
use Rattle.text.proofs.lines.line_end.Goals as goal

module _ (c : goal.After-unwrap_or) where
  at :
      (c.args.at + c.unwrap_or.result ≡ line_end c.args.text.now c.args.at)
      × (c.args.at ≤ c.args.at + c.unwrap_or.result)
      × (c.args.at + c.unwrap_or.result ≤ length c.args.text.now)
  at =
      ends_at _ c.in-Some.rest.now c.args.at _ c.position-newline.result c.in-Some.ensures.lookup.0.0 c.in-Some.ensures.lookup.0.2
      (position_from_yields_List (λ b. eqb b 10) _ _ c.position-newline.result c.position-newline.ensures.ran (YieldsList-from_slice c.in-Some.rest.now c.iter.ensures.rest) (λ x b q k. search rules))
      c.unwrap_or.ensures

pub overflow_add-result : goal.overflow_add-result
overflow_add-result c = omega (arith, (at c).2)

pub returns : goal.returns
returns c = ((at c).0, (at c).1, λ h. (at c).2)
