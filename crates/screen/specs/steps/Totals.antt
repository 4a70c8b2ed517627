-- What objects add up to, as the screening adds them. Assumes nothing.
use Rattle.std.specs.Prelude.{ℕ, ◌*◌, ◌≤◌, ◌≡◌}
use Rattle.sheet.specs.Words.{Sheet}
use Rattle.profile.specs.Counting.{how_many, sum}
use Rattle.profile.specs.Relations.{leader, lone, share}
use Rattle.screen.specs.declared.SheetTotals.{SheetTotals}

-- totals that k objects can have
pub record TotalsWithin (k : ℕ) (t : SheetTotals) : Type 0 where
  pub groups_within : t.groups ≤ k
  pub lone_within : t.lone ≤ k
  pub tracks_within : t.tracks ≤ 4294967295 * k

-- the totals of the objects before k
pub record TotalsTo (s : Sheet) (k : ℕ) (t : SheetTotals) : Type 0 where
  pub groups_to : t.groups ≡ how_many (leader s) k
  pub lone_to : t.lone ≡ how_many (lone s) k
  pub tracks_to : t.tracks ≡ sum (share s) k
