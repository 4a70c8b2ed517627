-- What `find_map` finds is the first clash. Assumes nothing.
use Prim.Native.Nat.{ℕ, ◌+◌, ◌<◌, ◌≤◌}
use mathlib.Core.Path.{◌≡◌, sym}
use mathlib.Core.Bool.{true}
use native.Mathlib.Omega.{arith}
use denote.Param.Members.{Mut, Called}
use Rattle.std.specs.Prelude.{Option, Some, None, IfSome, IsSomeAnd, MatchOption, IsTrue}
use Rattle.std.specs.Option.{option_map}
use Rattle.std.proofs.lemmas.Option.{none-some}
use Rattle.std.specs.Iterator.Runs.{Run, CallKeepsClosure, AllItemsGive, IsFirstToGive}
use Rattle.figures.specs.declared.Clash.{Clash}
use Rattle.figures.specs.Clashes.{first_below}
use Rattle.figures.proofs.FoundLaws.{below_none, below_first}

-- a run gives n items as v sees them, or stops before, and the closure answers h of the place of each
module _ {S A B F : Type 0} {steps : S → Option A → S → Type 0} (p : Run steps) (g : Mut F (A × Unit {0}) (Option Clash)) (c : F) (v : A → B) (item : ℕ → B) (h : ℕ → Option Clash) (n : ℕ)
    (keeps : CallKeepsClosure g c) (few : p.len ≤ n) (all : p.whole ≡ true → p.len ≡ n) (sees : (k : ℕ) → k < p.len → option_map v (p.at k) ≡ Some (item k))
    (asks : (k : ℕ) (x : A) (r : Option Clash) → v x ≡ item k → Called g c (x, tt) r c → r ≡ h k) where
  unsome : {x y : B} → Some x ≡ Some y → x ≡ y
  unsome e = cc e

  answered : (k : ℕ) (r : Option Clash) (o : Option A) → option_map v o ≡ Some (item k) → IfSome o (λ x. Called g c (x, tt) r c) → h k ≡ r
  answered k r (Some x) e called = let z : v x ≡ item k = unsome e in sym (asks k x r z called)
  answered k r None e called = absurd (none-some _ e)

  there : (P : A → Type 0) (o : Option A) → IsSomeAnd o P → IfSome o P
  there P (Some x) q = q
  there P None q = absurd q

  pub first_mapped : (r : Option Clash)
      → MatchOption r (IsTrue p.whole × AllItemsGive p g c None) (λ y. (i : ℕ) × (i < p.len) × (p.len ≡ i + 1) × IsFirstToGive p g c (Some y) None i)
      → r ≡ first_below h n
  first_mapped None d = sym (below_none h n (λ k l. answered k None (p.at k) (sees k (omega (arith, all d.0, l))) (d.1 keeps k)))
  first_mapped (Some y) d =
      let first = d.3 keeps in
      sym (below_first h n d.0 y (omega (arith, d.1)) (λ j l. answered j None (p.at j) (sees j (omega (arith, d.1, l))) (there _ (p.at j) (first.1 j l))) (answered d.0 (Some y) (p.at d.0) (sees d.0 d.1) (there _ (p.at d.0) first.0)))
