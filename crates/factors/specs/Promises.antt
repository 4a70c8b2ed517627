-- What table and converter are held to; proofs/Theorems.antt has the theorems. Document 02, L3: "A converter gives the least tenth of a dB that
-- is not below it", "for each tenth d from -600 to 210 the largest n where n to the power 200, times 10 to the power 600, is at most 10 to
-- the power (1800 + d)". Assumes nothing.
use Rattle.std.specs.Prelude.{ℕ, ◌+◌, ◌*◌, ◌-◌, ◌^◌, ◌<◌, ◌≤◌, ◌≡◌, true, get_or, ℤ, pos, negsuc}
use Rattle.std.specs.Int.Signed.{lt_z}
use Rattle.values.specs.declared.Gain.TheVariants.{Tenths}
use Rattle.values.specs.Gain.{legal_gain}
use Rattle.factors.specs.Table.{entries}
use Rattle.factors.specs.Decibels.{exponent}

-- "each tenth d from -600 to 210": these are the numbers of the legal gains
abbrev pub IsTenth : ℤ → Type 0
IsTenth d = legal_gain (Tenths d) ≡ true

-- the entry of a tenth, -600 first
unfoldable pub entry_of : ℤ → ℕ
entry_of (pos n) = get_or entries (600 + n) 0
entry_of (negsuc n) = get_or entries (599 - n) 0

-- a factor of n millionths is at most d tenths of a dB
abbrev pub Within : ℕ → ℤ → Type 0
Within n d = n ^ 200 * 10 ^ 600 ≤ 10 ^ exponent d

-- it is above them
abbrev pub Above : ℕ → ℤ → Type 0
Above n d = 10 ^ exponent d < n ^ 200 * 10 ^ 600

-- the entry of a tenth is "the largest n"
pub record EntryLargest (d : ℤ) : Type 0 where
  pub within : Within (entry_of d) d
  pub largest : (n : ℕ) → Within n d → n ≤ entry_of d

-- d is the least tenth that is not below a factor of f millionths, by the table and in decibels
pub record LeastTenth (f : ℕ) (d : ℤ) : Type 0 where
  pub legal : IsTenth d
  pub not_below : f ≤ entry_of d
  pub others_below : (e : ℤ) → IsTenth e → lt_z e d ≡ true → entry_of e < f
  pub within : Within f d
  pub others_above : (e : ℤ) → IsTenth e → lt_z e d ≡ true → Above f e
  pub one_less : lt_z (negsuc 599) d ≡ true → 10 ^ (exponent d - 1) < f ^ 200 * 10 ^ 600
