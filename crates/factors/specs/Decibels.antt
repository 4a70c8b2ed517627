-- Which factors are at most a tenth of a dB, by whole numbers. Document 02, L3: "for each tenth d from -600 to 210 the largest n where n to the
-- power 200, times 10 to the power 600, is at most 10 to the power (1800 + d) [..]. The rule is shown by one test over all entries."
-- A factor of n millionths is at most d tenths of a dB where 200 times the logarithm of n / 1,000,000 is at most d. Assumes nothing.
use Rattle.std.specs.Prelude.{ℕ, suc, ◌+◌, ◌*◌, ◌-◌, ◌^◌, Bool, true, cond, not, ◌&&◌, List, [], ◌∷◌, leb, ltb, ℤ, pos, negsuc}

-- 1800 + d, for d from -600 on: `negsuc n` is -(n + 1)
unfoldable pub exponent : ℤ → ℕ
exponent (pos n) = 1800 + n
exponent (negsuc n) = 1799 - n

-- "n to the power 200, times 10 to the power 600, is at most 10 to the power (1800 + d)"
unfoldable pub is_within : ℕ → ℤ → Bool
is_within n d = leb (n ^ 200 * 10 ^ 600) (10 ^ exponent d)

-- "the largest n": n is, and n + 1 is not
unfoldable pub is_largest : ℕ → ℤ → Bool
is_largest n d = is_within n d && not (is_within (n + 1) d)

-- the tenth of a place in the table: -600 has the place 0
unfoldable pub tenth_at : ℕ → ℤ
tenth_at k = cond (ltb k 600) (negsuc (599 - k)) (pos (k - 600))

-- each entry is the largest n of its tenth; the first of these entries has the place k
unfoldable pub largest_from : ℕ → List ℕ → Bool
largest_from k [] = true
largest_from k (n ∷ ns) = is_largest n (tenth_at k) && largest_from (suc k) ns

-- the rule of the table
unfoldable pub keeps_rule : List ℕ → Bool
keeps_rule ns = largest_from 0 ns

-- each entry is above the one before, which is m for the first
unfoldable pub rises_from : ℕ → List ℕ → Bool
rises_from m [] = true
rises_from m (n ∷ ns) = ltb m n && rises_from n ns
