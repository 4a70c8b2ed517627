-- No refusal has more than sixteen figures. Assumes nothing.
use Rattle.std.proofs.Common.{◌≡◌, ℕ, zero, suc, ◌+◌, ◌-◌, ◌<◌, ◌≤◌, Bool, true, false, cond, not, ◌&&◌, ◌||◌, refl, ap, sym, ◌∙◌, List, [], length, get_or, eqb, ltb, arith}
use mathlib.Core.Bool.{true≢false}
use borrow.Author.Tests.{ltb-false, ne_eqb, eqb-true, eq-eqb}
use Rattle.std.specs.Prelude.{Option, Some, None}
use Rattle.sheet.specs.Words.{Sheet}
use Rattle.sheet.specs.Layout.{level, count}
use Rattle.sheet.specs.Fields.{objects, header}
use Rattle.profile.specs.declared.Place.{Place}
use Rattle.profile.specs.declared.Verdict.{Verdict}
use Rattle.profile.specs.declared.Verdict.TheVariants.{Accepted, Broken}
use Rattle.profile.specs.Counting.{how_many, lowest, lowest_from}
use Rattle.profile.specs.Limits.{limits, limit, exceeds, units_limit, groups_limit}
use Rattle.profile.specs.Relations.{leader, lone, complement, top, groups, units}
use Rattle.profile.specs.Rules.{rule23}
use Rattle.profile.specs.Verdict.{verdict, breaks, subjects, subject_kind, position, number_at, rule_at, rule_count, rules, section_of, record_of}
use Rattle.profile.proofs.BoolLaws.{or_none, and_second}
use Rattle.figures.specs.declared.Clash.{Clash}
use Rattle.figures.specs.Ranges.{range_clashes}
use Rattle.figures.specs.Members.{leader_clash}
use Rattle.figures.specs.Shares.{has_share, share_figure, share_list}
use Rattle.figures.specs.Figures.{figures, figures_by, figures_of, clash_figures}
use Rattle.figures.specs.Lists.{most_figures}
use Rattle.figures.proofs.KeptLaws.{kept}
use Rattle.figures.proofs.PickLaws.{picked_length}
use Rattle.figures.proofs.ShareLaws.{list_picked, levelled}

-- leaders and lone objects are apart
apart : (a b c d : Bool) → cond (a || (b && not a && not c)) 1 0 ≡ cond a 1 0 + cond (b && not a && not c) 1 0
apart true true true d = refl
apart true true false d = refl
apart true false c d = refl
apart false true true d = refl
apart false true false d = refl
apart false false c d = refl

shares_split : (s : Sheet) (n : ℕ) → how_many (has_share s) n ≡ how_many (leader s) n + how_many (lone s) n
unfolding how_many has_share lone
shares_split s zero = refl
shares_split s (suc n) = omega (arith, shares_split s n, apart (leader s n) (top s n) (complement s n) true)

-- so there are as many lines as units
pub as_units : (s : Sheet) → length (share_list s) ≡ units s
unfolding units groups
as_units s =
    ap length (list_picked s) ∙ picked_length (has_share s) (share_figure s) (count s objects) ∙ shares_split s (count s objects)

-- the limit is sixteen at every level that has one
row_most : (r : ℕ) → get_or (get_or limits r []) units_limit 0 ≤ most_figures
unfolding limits
row_most zero = omega arith
row_most (suc zero) = omega arith
row_most (suc (suc r)) = omega arith

limit_most : (n : ℕ) → limit n units_limit ≤ most_figures
unfolding limit
limit_most n = row_most (n - 1)

twenty_three : position 23 < position 24
unfolding position lowest lowest_from number_at rule_at rule_count rules
twenty_three = omega arith

-- where 24 comes, 23 is kept
module _ (s : Sheet) (langs : List ℕ) (place : Place) (e : verdict s langs ≡ Broken 24 place) where
  units_kept : exceeds s units_limit (units s) ≡ false
  unfolding breaks subjects subject_kind rule23
  units_kept = (or_none (exceeds s groups_limit (groups s)) (exceeds s units_limit (units s)) (kept s langs 24 place e 23 header 0 twenty_three (omega arith))).1

  units_most : units s ≤ most_figures
  unfolding exceeds
  units_most =
      let none = and_second (not (eqb (level s) 0)) (ltb (limit (level s) units_limit) (units s)) units_kept (ap not (ne_eqb (level s) 0 (levelled s langs place e).0)) in
      omega (arith, ltb-false _ _ none, limit_most (level s))

-- a clash has two figures
clash_most : (x : Option Clash) → length (clash_figures x) ≤ 2
unfolding clash_figures
clash_most (Some x) = omega arith
clash_most None = omega arith

by_shares : (s : Sheet) (place : Place) → figures_of s 24 place ≡ share_list s
unfolding figures_of
by_shares s place = refl

-- the figures by a rule that is not 24
few : (s : Sheet) (rule : ℕ) (place : Place) → (rule ≡ 24 → ⊥) → length (figures_of s rule place) ≤ 2
unfolding figures_of
few s rule place n = go (eqb rule 18) (eqb rule 20) (eqb rule 24) refl
  where
    go : (a b c : Bool) → eqb rule 24 ≡ c → length (cond a (clash_figures (range_clashes s (section_of place) (record_of place))) (cond b (clash_figures (leader_clash s (record_of place))) (cond c (share_list s) []))) ≤ 2
    go true b c e = clash_most (range_clashes s (section_of place) (record_of place))
    go false true c e = clash_most (leader_clash s (record_of place))
    go false false true e = absurd (n (eqb-true rule 24 e))
    go false false false e = omega arith

most_by : (s : Sheet) (langs : List ℕ) (v : Verdict) → verdict s langs ≡ v → length (figures_by s v) ≤ most_figures
unfolding figures_by
most_by s langs Accepted e = omega arith
most_by s langs (Broken rule place) e = go (eqb rule 24) refl
  where
    go : (b : Bool) → eqb rule 24 ≡ b → length (figures_of s rule place) ≤ most_figures
    go true q =
        let r : rule ≡ 24 = eqb-true rule 24 q in
        let f : verdict s langs ≡ Broken 24 place = e ∙ ap (λ n. Broken n place) r in
        let same : figures_of s rule place ≡ share_list s = ap (λ n. figures_of s n place) r ∙ by_shares s place in
        rw same (omega (arith, as_units s, units_most s langs place f))
    go false q = omega (arith, few s rule place (λ r. absurd (true≢false (sym (eq-eqb rule 24 r) ∙ q))))

-- whatever the verdict
pub figures_most : (s : Sheet) (langs : List ℕ) → length (figures s langs) ≤ most_figures
unfolding figures
figures_most s langs = most_by s langs (verdict s langs) refl
