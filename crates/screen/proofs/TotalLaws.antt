-- What an object adds to the totals. Assumes nothing.
use Prim.Native.Nat.{ℕ, suc, ◌+◌}
use mathlib.Core.Path.{◌≡◌, refl, sym}
use mathlib.Core.Bool.{Bool, true, false, not, cond, ◌&&◌}
use native.Mathlib.Nat.{add-zero}
use Rattle.sheet.specs.Words.{Sheet}
use Rattle.profile.specs.Counting.{how_many, sum}
use Rattle.profile.specs.Relations.{leader, lone, top, complement, size, share}
use Rattle.relations.specs.steps.Sizes.{largest_member}
use Rattle.screen.specs.declared.SheetTotals.{SheetTotals}
use Rattle.screen.specs.steps.Totals.{TotalsTo}

lone_leader : (s : Sheet) (o : ℕ) → leader s o ≡ true → lone s o ≡ false
unfolding lone
lone_leader s o e =
    (elim (top s o) as (λ t. (t && not (leader s o) && not (complement s o)) ≡ false) [
      | true ↦ rw e refl
      | false ↦ refl
    ])

lone_other : (s : Sheet) (o : ℕ) (b : Bool) → leader s o ≡ false → (top s o && not (complement s o)) ≡ b → lone s o ≡ b
unfolding lone
lone_other s o b e =
    (elim (top s o) as (λ t. (t && not (complement s o)) ≡ b → (t && not (leader s o) && not (complement s o)) ≡ b) [
      | true ↦ λ h. rw e h
      | false ↦ λ h. h
    ])

module _ (s : Sheet) (o : ℕ) (t r : SheetTotals) (h : TotalsTo s o t) where
  added : r.groups ≡ t.groups + cond (leader s o) 1 0 → r.lone ≡ t.lone + cond (lone s o) 1 0 → r.tracks ≡ t.tracks + share s o → TotalsTo s (suc o) r
  unfolding how_many sum
  added p q e = record { groups_to = rw (sym h.groups_to) p; lone_to = rw (sym h.lone_to) q; tracks_to = rw (sym h.tracks_to) e }

  pub leader_added : leader s o ≡ true → r.groups ≡ t.groups + 1 → r.lone ≡ t.lone → r.tracks ≡ t.tracks + largest_member s o → TotalsTo s (suc o) r
  unfolding share largest_member
  leader_added e p q k = added (rw e p) (rw (lone_leader s o e, add-zero) q) (rw e k)

  pub lone_added : leader s o ≡ false → (top s o && not (complement s o)) ≡ true → r.groups ≡ t.groups → r.lone ≡ t.lone + 1 → r.tracks ≡ t.tracks + size s o → TotalsTo s (suc o) r
  unfolding share
  lone_added e f p q k = let l = lone_other s o true e f in added (rw (e, add-zero) p) (rw l q) (rw (e, l) k)

  pub other_added : leader s o ≡ false → (top s o && not (complement s o)) ≡ false → r.groups ≡ t.groups → r.lone ≡ t.lone → r.tracks ≡ t.tracks → TotalsTo s (suc o) r
  unfolding share
  other_added e f p q k = let l = lone_other s o false e f in added (rw (e, add-zero) p) (rw (l, add-zero) q) (rw (e, l, add-zero) k)
