-- The figures of a sheet that is refused by 24: each share has its line, and they add up above the limit. Assumes nothing.
use Rattle.std.proofs.Common.{◌≡◌, ℕ, suc, ◌<◌, Bool, true, false, cond, not, refl, ap, sym, ◌∙◌, List, length, eqb, ltb}
use mathlib.Core.Bool.{true≢false}
use borrow.Author.Tests.{ltb-true, eq-eqb, not-true}
use Rattle.sheet.specs.Words.{Sheet}
use Rattle.sheet.specs.Layout.{level, count}
use Rattle.sheet.specs.Fields.{objects}
use Rattle.profile.specs.declared.Place.{Place}
use Rattle.profile.specs.declared.Verdict.TheVariants.{Broken}
use Rattle.profile.specs.Limits.{limit, exceeds, counted_limit}
use Rattle.profile.specs.Relations.{leader, lone, share, counted_tracks}
use Rattle.profile.specs.Rules.{rule24}
use Rattle.profile.specs.Verdict.{verdict, breaks}
use Rattle.profile.proofs.BoolLaws.{and_both, or_none}
use Rattle.profile.proofs.SumLaws.{sum_eq}
use Rattle.profile.proofs.VerdictLaws.{broken_first}
use Rattle.figures.specs.Shares.{has_share, share_figure, share_figures, share_list}
use Rattle.figures.specs.Figures.{figures, figures_by, figures_of}
use Rattle.figures.specs.Promises.{ShareOf, SharesExceed, figure_at, record_at, total}
use Rattle.figures.proofs.PickLaws.{picked, picked_total, picked_each, picked_all, picked_rise}

-- the list of the shares picks the objects that have one
pub list_picked : (s : Sheet) → share_list s ≡ picked (has_share s) (share_figure s) (count s objects)
unfolding share_list share_figures
list_picked s = refl

-- an object that has no share adds nothing
no_share : (s : Sheet) (o : ℕ) → has_share s o ≡ false → share s o ≡ 0
unfolding has_share share
no_share s o e = let n = or_none (leader s o) (lone s o) e in rw (n.0, n.1) refl

share_or_none : (s : Sheet) (o : ℕ) (b : Bool) → has_share s o ≡ b → cond b (share s o) 0 ≡ share s o
share_or_none s o true e = refl
share_or_none s o false e = sym (no_share s o e)

-- so the shares add up to the counted tracks
pub shares_total : (s : Sheet) → total (share_list s) ≡ counted_tracks s
unfolding counted_tracks
shares_total s =
    ap total (list_picked s)
    ∙ picked_total (has_share s) (share_figure s) (count s objects)
    ∙ sum_eq (λ o. cond (has_share s o) (share s o) 0) (share s) (count s objects) (λ o l. share_or_none s o (has_share s o) refl)

module _ (s : Sheet) (langs : List ℕ) (place : Place) (e : verdict s langs ≡ Broken 24 place) where
  -- the figures are the shares
  pub figures_shares : figures s langs ≡ share_list s
  unfolding figures figures_by figures_of
  figures_shares = rw e refl

  figures_picked : figures s langs ≡ picked (has_share s) (share_figure s) (count s objects)
  figures_picked = figures_shares ∙ list_picked s

  -- the rule is broken: the level has a limit, and the counted tracks are above it
  pub exceeded : exceeds s counted_limit (counted_tracks s) ≡ true
  unfolding breaks rule24
  exceeded = (broken_first s langs 24 place e).here.broken

  pub levelled : (level s ≡ 0 → ⊥) × (limit (level s) counted_limit < counted_tracks s)
  unfolding exceeds
  levelled =
      let both = and_both (not (eqb (level s) 0)) (ltb (limit (level s) counted_limit) (counted_tracks s)) exceeded in
      (λ z. true≢false (sym (eq-eqb (level s) 0 z) ∙ not-true _ both.0), ltb-true _ _ both.1)

  share_of : (i : ℕ) → i < length (figures s langs) → ShareOf s (figure_at (figures s langs) i)
  share_of i h =
      let w = picked_each (has_share s) (share_figure s) (count s objects) i (rw figures_picked at h) in
      rw (figures_picked, w.1.1.1) (record { of_object = refl; inside = w.1.0; has_share_lem = w.1.1.0; number = refl })

  has_line : (o : ℕ) → o < count s objects → has_share s o ≡ true → (i : ℕ) × ((i < length (figures s langs)) × (record_at (figures s langs) i ≡ o))
  has_line o l h =
      let w = picked_all (has_share s) (share_figure s) (count s objects) o l h in
      rw figures_picked (w.0, (w.1.0, ap (λ x. x.index) w.1.1))

  rises : (i : ℕ) → suc i < length (figures s langs) → record_at (figures s langs) i < record_at (figures s langs) (suc i)
  rises i h = rw figures_picked (picked_rise (has_share s) (share_figure s) (λ o. refl) (count s objects) i (rw figures_picked at h))

  -- what is promised of them
  pub shares_exceed : SharesExceed s langs
  shares_exceed = record {
    levelled = levelled.0;
    each = share_of;
    all = has_line;
    rising = rises;
    above = rw (figures_shares, shares_total s) levelled.1;
  }
