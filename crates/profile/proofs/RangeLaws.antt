-- What the library's `any`, `all` and `find` tell of a range from 0, in the words of the counting definitions. Assumes nothing.
use Rattle.std.proofs.Common.{ℕ, List, Bool, true, false, true≢false, ◌+◌, ◌<◌, ◌≤◌, ◌≡◌, refl, sym, ◌∙◌, length, subst, arith}
use Rattle.std.specs.Prelude.{Option, Some, None}
use Rattle.std.specs.Bool.{MatchBool}
use Rattle.std.specs.Option.{MatchOption, unwrap_or}
use Rattle.std.specs.List.{AllWithin, HoldsAt, range_with_len}
use Rattle.std.proofs.lemmas.List.FromFn.{length-range_with_len, get_or-range_with_len}
use Rattle.profile.specs.Counting.{any, every, lowest}
use Rattle.profile.proofs.CountingLaws.{lowest_at, lowest_none}
use Rattle.profile.proofs.ListLaws.{every_all, every_at}
use Rattle.profile.proofs.SumLaws.{any_one, any_nowhere}

abbrev numbers : ℕ → List ℕ
numbers n = range_with_len 0 n

module _ (P : ℕ → Type 0) (n : ℕ) where
  -- what holds of each item holds of each number below n
  pub each_below : AllWithin P (numbers n) 0 (length (numbers n)) → (k : ℕ) → k < n → P k
  each_below h k l = let e : 0 + k ≡ k = omega arith in subst P (get_or-range_with_len 0 n k 0 l ∙ e) (h k 0 (omega arith) (omega (arith, l, length-range_with_len 0 n)))

  -- what holds of some item holds of some number below n
  some_below : (k : ℕ) × (k < length (numbers n)) × HoldsAt P (numbers n) k → (k : ℕ) × (k < n) × P k
  some_below e =
      let m : e.0 < n = omega (arith, e.1, length-range_with_len 0 n) in
      let z : 0 + e.0 ≡ e.0 = omega arith in
      (e.0, m, subst P (get_or-range_with_len 0 n e.0 0 m ∙ z) (e.2 0))

module _ (p : ℕ → Bool) (n : ℕ) where
  abbrev Is : Bool → ℕ → Type 0
  Is b k = k < n → p k ≡ b

  one_fails : (b : Bool) → every p n ≡ b → (k : ℕ) → k < n → p k ≡ false → false ≡ b
  one_fails true h k l e = absurd (true≢false (sym (every_at p n k h l) ∙ e))
  one_fails false h k l e = refl

  pub is_every : (r : Bool) → MatchBool r (AllWithin (Is true) (numbers n) 0 (length (numbers n))) ((k : ℕ) × (k < length (numbers n)) × HoldsAt (Is false) (numbers n) k) → r ≡ every p n
  is_every true h = sym (every_all p n (λ k l. each_below (Is true) n h k l l))
  is_every false h = let e = some_below (Is false) n h in one_fails (every p n) refl e.0 e.1 (e.2 e.1)

  pub is_any : (r : Bool) → MatchBool r ((k : ℕ) × (k < length (numbers n)) × HoldsAt (Is true) (numbers n) k) (AllWithin (Is false) (numbers n) 0 (length (numbers n))) → r ≡ any p n
  is_any true h = let e = some_below (Is true) n h in sym (any_one p n e.0 e.1 (e.2 e.1))
  is_any false h = sym (any_nowhere p n (λ k l. each_below (Is false) n h k l l))

  pub is_lowest : (r : Option ℕ) → MatchOption r ((k : ℕ) → 0 ≤ k → k < n → Is false k) (λ i. (0 ≤ i) × (i < n) × Is true i × ((k : ℕ) → 0 ≤ k → k < i → Is false k)) → unwrap_or r n ≡ lowest p n
  is_lowest None f = sym (lowest_none p n (λ k l. f k (omega arith) l l))
  is_lowest (Some i) f = sym (lowest_at p n i f.1 (λ k l. f.3 k (omega arith) l (omega (arith, l, f.1))) (f.2 f.1))
