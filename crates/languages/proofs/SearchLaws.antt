-- The index of a word is narrowed by steps that are halved. Assumes nothing.
use Rattle.std.proofs.Common.{ℕ, zero, suc, eqb, leb, ltb, ◌+◌, ◌<◌, ◌≤◌, ◌≡◌, refl, sym, ◌∙◌, Bool, true, false, true≢false, cond, ◌&&◌, List, [], ◌∷◌, length, get_or, arith}
use borrow.Author.Tests.{leb-false, eq-eqb, ne_eqb, leb-true, ltb-true, ltb-false, lt-ltb, eqb-true}
use Rattle.std.proofs.lemmas.Bool.{and_parts}
use Rattle.profile.specs.Counting.{any}
use Rattle.profile.specs.Languages.{is_listed, is_rising}
use Rattle.profile.proofs.RisingLaws.{at_least, rising_later}
use Rattle.profile.proofs.SumLaws.{any_one, any_nowhere}
use Rattle.languages.specs.steps.Search.{Above, AtMost, halves}

-- each step is half of what was left
pub halves_at : (ns : List ℕ) → halves ns ≡ true → (j : ℕ) → suc j < length ns → get_or ns j 0 ≡ get_or ns (suc j) 0 + get_or ns (suc j) 0
unfolding halves
halves_at [] h j l = absurd (omega arith)
halves_at (a ∷ []) h j l = absurd (omega arith)
halves_at (a ∷ b ∷ ns) h zero l = eqb-true _ _ (and_parts (eqb a (b + b)) (halves (b ∷ ns)) h).0
halves_at (a ∷ b ∷ ns) h (suc j) l = halves_at (b ∷ ns) (and_parts (eqb a (b + b)) (halves (b ∷ ns)) h).1 j (omega arith)

-- and is what is left after it
pub left_next : (left : ℕ) (steps : List ℕ) (j : ℕ) → get_or (left ∷ steps) (j + 1) 0 ≡ get_or steps j 0
left_next left steps j = let e : j + 1 ≡ suc j = omega arith in rw e refl

-- past its end a list has no words
pub above_end : (langs : List ℕ) (w n : ℕ) → length langs ≤ n → Above langs w n
above_end langs w n l rises i m k = absurd (omega (arith, l, m, k))

-- the word at an index is at most that at a later one, or at itself
not_above : (langs : List ℕ) → is_rising langs ≡ true → (i j : ℕ) → i < length langs → j ≤ i → get_or langs j 0 ≤ get_or langs i 0
not_above langs rises i j l m =
    (elim (ltb j i) as (λ b. ltb j i ≡ b → get_or langs j 0 ≤ get_or langs i 0) [
      | true ↦ λ e. omega (arith, rising_later langs rises j i (ltb-true j i e) l)
      | false ↦ λ e. let z : j ≡ i = omega (arith, ltb-false j i e, m) in rw z (omega arith)
    ]) refl

-- such a list has at most 65,536 words
pub above_first : (langs : List ℕ) (w : ℕ) → w < 65536 → Above langs w 65536
above_first langs w fits rises i m l = omega (arith, at_least langs rises i l, m, fits)

-- a step to an index whose word is at most the one looked for is taken, another is not
pub narrowed : (langs : List ℕ) (w last s : ℕ) (taken : Bool) → taken ≡ (ltb (last + s) (length langs) && leb (get_or langs (last + s) 0) w)
    → AtMost langs w last → Above langs w (last + (s + s)) → AtMost langs w (cond taken (last + s) last) × Above langs w (cond taken (last + s) last + s)
narrowed langs w last s true e at above =
    let both = and_parts (ltb (last + s) (length langs)) (leb (get_or langs (last + s) 0) w) (sym e) in
    let sum : last + s + s ≡ last + (s + s) = omega arith in
    (λ k. (ltb-true _ _ both.0, leb-true _ _ both.1), rw sum above)
narrowed langs w last s false e at above = (at, λ rises i m l. go rises i m l (leb (get_or langs (last + s) 0) w) refl)
  where
    go : is_rising langs ≡ true → (i : ℕ) → last + s ≤ i → i < length langs → (b : Bool) → leb (get_or langs (last + s) 0) w ≡ b → w < get_or langs i 0
    go rises i m l true q = absurd (true≢false (sym (e ∙ rw (lt-ltb (last + s) (length langs) (omega (arith, m, l)), q) refl)))
    go rises i m l false q = omega (arith, leb-false _ _ q, not_above langs rises i (last + s) l m)

-- the sum of the steps taken stays within a bound
pub within : (last s n : ℕ) (taken : Bool) → last + (s + s) ≤ n → cond taken (last + s) last + s ≤ n
within last s n true l = omega (arith, l)
within last s n false l = omega (arith, l)

module _ (langs : List ℕ) (w last : ℕ) (at : AtMost langs w last) (above : Above langs w (last + 1)) (rises : is_rising langs ≡ true) where
  -- a word before it is below the one looked for
  earlier : (k : ℕ) → k < last → get_or langs k 0 < w
  earlier k l = let here = at (omega (arith, l)) in omega (arith, rising_later langs rises k last l here.0, here.1)

  other : eqb (get_or langs last 0) w ≡ false → (k : ℕ) → k < length langs → eqb (get_or langs k 0) w ≡ false
  other e k m = ne_eqb _ _ (λ q. let z : get_or langs k 0 ≡ w = q in apart z (ltb k last) refl (ltb last k) refl)
    where
      apart : get_or langs k 0 ≡ w → (b : Bool) → ltb k last ≡ b → (c : Bool) → ltb last k ≡ c → ⊥
      apart z true p c q = omega (arith, earlier k (ltb-true _ _ p), z)
      apart z false p true q = omega (arith, above rises k (omega (arith, ltb-true _ _ q)) m, z)
      apart z false p false q = let same : k ≡ last = omega (arith, ltb-false _ _ p, ltb-false _ _ q) in true≢false (sym (eq-eqb _ _ (rw same at z)) ∙ e)

  -- the word stands there or nowhere
  pub found_or_nowhere : last < length langs → eqb (get_or langs last 0) w ≡ is_listed langs w
  unfolding is_listed
  found_or_nowhere l =
      (elim (eqb (get_or langs last 0) w) as (λ b. eqb (get_or langs last 0) w ≡ b → b ≡ any (λ i. eqb (get_or langs i 0) w) (length langs)) [
        | true ↦ λ e. sym (any_one (λ i. eqb (get_or langs i 0) w) (length langs) last l e)
        | false ↦ λ e. sym (any_nowhere (λ i. eqb (get_or langs i 0) w) (length langs) (other e))
      ]) refl

  -- an empty list has no word
  pub nowhere : length langs ≤ last → false ≡ is_listed langs w
  unfolding is_listed
  nowhere l = sym (any_nowhere (λ i. eqb (get_or langs i 0) w) (length langs) (λ k m. absurd (omega (arith, l, m, (at (omega (arith, l, m))).0))))

  -- the words at the front are those at most the given one, if the one there is
  pub front : (ltb last (length langs) && leb (get_or langs last 0) w) ≡ true → (i : ℕ) → i < suc last → get_or langs i 0 ≤ w
  front e i l =
      let both = and_parts (ltb last (length langs)) (leb (get_or langs last 0) w) e in
      omega (arith, not_above langs rises last i (ltb-true _ _ both.0) (omega (arith, l)), leb-true _ _ both.1)
