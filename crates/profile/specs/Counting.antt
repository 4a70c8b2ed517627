-- Counting over the numbers below n: what the relations and rules are said with. Assumes nothing.
use Rattle.std.specs.Prelude.{ℕ, zero, suc, ◌+◌, ◌<◌, ◌≡◌, max, Bool, true, false, cond, ◌&&◌, ◌||◌, List, [], ◌∷◌, ◌++◌}

-- what a closure gives a number below n is f of that number
abbrev pub ComputesBelow : {Y : Type 0} → ℕ → (ℕ → Y → Type 0) → (ℕ → Y) → Type 0
ComputesBelow n gives f = (i : ℕ) (r : _) → i < n → gives i r → r ≡ f i

-- what a closure gives two numbers below n is f of them
abbrev pub ComputesPairsBelow : {Y : Type 0} → ℕ → (ℕ → ℕ → Y → Type 0) → (ℕ → ℕ → Y) → Type 0
ComputesPairsBelow n gives f = (i j : ℕ) (r : _) → i < n → j < n → gives i j r → r ≡ f i j

-- some number below n has p
unfoldable pub any : (ℕ → Bool) → ℕ → Bool
any p zero = false
any p (suc n) = any p n || p n

-- how many numbers below n have p
unfoldable pub how_many : (ℕ → Bool) → ℕ → ℕ
how_many p zero = 0
how_many p (suc n) = how_many p n + cond (p n) 1 0

-- f of the numbers below n, added up
unfoldable pub sum : (ℕ → ℕ) → ℕ → ℕ
sum f zero = 0
sum f (suc n) = sum f n + f n

-- the largest f of the numbers below n, 0 where n is 0
unfoldable pub largest : (ℕ → ℕ) → ℕ → ℕ
largest f zero = 0
largest f (suc n) = max (largest f n) (f n)

-- the lowest of the n numbers from i on that has p, or i + n
unfoldable pub lowest_from : (ℕ → Bool) → ℕ → ℕ → ℕ
lowest_from p i zero = i
lowest_from p i (suc n) = let rest = lowest_from p (suc i) n in cond (p i) i rest

-- the lowest number below n that has p, or n
unfoldable pub lowest : (ℕ → Bool) → ℕ → ℕ
lowest p n = lowest_from p 0 n

-- two of the numbers below n are alike by r
unfoldable pub two_of : (ℕ → ℕ → Bool) → ℕ → Bool
two_of r n = any (λ j. any (λ i. r i j) j) n

-- every number below n has p
unfoldable pub every : (ℕ → Bool) → ℕ → Bool
every p zero = true
every p (suc n) = every p n && p n

-- the lists that f gives the numbers below n, one behind the other
unfoldable pub concat_below : {X : Type 0} → (ℕ → List X) → ℕ → List X
concat_below f zero = []
concat_below f (suc n) = concat_below f n ++ f n

-- what f gives the numbers below n, as a list
unfoldable pub tabulate : {X : Type 0} → (ℕ → X) → ℕ → List X
tabulate f n = concat_below (λ k. f k ∷ []) n
