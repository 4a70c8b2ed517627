-- What of a group is read in a table of what a programme includes. Assumes nothing.
use Rattle.std.specs.Prelude.{ℕ, suc, ◌+◌, ◌-◌, ◌<◌, ◌≡◌, Bool, true, false, cond, not, ◌&&◌, ◌||◌, List, eqb, leb, ltb, get_or}
use Rattle.sheet.specs.Words.{Sheet, word}
use Rattle.sheet.specs.Layout.{field, number}
use Rattle.sheet.specs.Fields.{objects, complement_list}
use Rattle.sheet.specs.declared.spans.Entries.{Entries}
use Rattle.profile.specs.Counting.{how_many}
use Rattle.profile.specs.Relations.{member, members}
use Rattle.profile.specs.Rules.{sets_differ}

-- of a group of so many members, of which so many are included and sets are named for so many: one at most is included, or all are, and
-- sets are named for all or none
unfoldable pub group_whole : ℕ → ℕ → ℕ → Bool
group_whole n many set = leb many 1 || eqb many n && (eqb set 0 || eqb set n)

-- how many members of a leader's group have 1 or more in a table
unfoldable pub many_in : Sheet → List ℕ → ℕ → ℕ
many_in s t l = how_many (λ i. not (eqb (get_or t (member s l i) 0) 0)) (members s l)

-- how many have 2 or more
unfoldable pub sets_in : Sheet → List ℕ → ℕ → ℕ
sets_in s t l = how_many (λ i. ltb 1 (get_or t (member s l i) 0)) (members s l)

-- a group is whole, and the leader's set has the words of those of its members
abbrev pub GroupKept : Sheet → List ℕ → ℕ → Type 0
GroupKept s t l =
    (group_whole (members s l) (many_in s t l) (sets_in s t l) ≡ true)
    × (1 < get_or t l 0 → (i : ℕ) → i < members s l → 1 < get_or t (member s l i) 0 → sets_differ s (get_or t l 0 - 2) (get_or t (member s l i) 0 - 2) ≡ false)

-- the same of a group of two, by what stands for both
abbrev pub PairKept : Sheet → ℕ → ℕ → Type 0
PairKept s e c =
    (group_whole 2 (cond (not (eqb e 0)) 1 0 + cond (not (eqb c 0)) 1 0) (cond (ltb 1 e) 1 0 + cond (ltb 1 c) 1 0) ≡ true)
    × (1 < e → 1 < c → sets_differ s (e - 2) (c - 2) ≡ false)

-- what a table has for entry i of a list, where section 6 begins at base and the list at first
abbrev pub listed_in : Sheet → List ℕ → ℕ → ℕ → ℕ → ℕ
listed_in s t base first i = get_or t (word s (base + (first + i))) 0

-- how many have 1 or more of a leader that has e and the n complements of a list
abbrev pub many_listed : Sheet → List ℕ → ℕ → ℕ → ℕ → ℕ → ℕ
many_listed s t base first n e = cond (not (eqb e 0)) 1 0 + how_many (λ i. not (eqb (listed_in s t base first i) 0)) n

-- how many have 2 or more
abbrev pub sets_listed : Sheet → List ℕ → ℕ → ℕ → ℕ → ℕ → ℕ
sets_listed s t base first n e = cond (ltb 1 e) 1 0 + how_many (λ i. ltb 1 (listed_in s t base first i)) n

-- such a group is whole, and the leader's set has the words of those of the complements
pub record ListKept (s : Sheet) (t : List ℕ) (base first n e : ℕ) : Type 0 where
  pub whole : group_whole (suc n) (many_listed s t base first n e) (sets_listed s t base first n e) ≡ true
  pub agreeing : 1 < e → (i : ℕ) → i < n → 1 < listed_in s t base first i → sets_differ s (e - 2) (listed_in s t base first i - 2) ≡ false

-- a list is the complements of a leader, where section 6 begins at base
pub record ListsComplements (s : Sheet) (base l : ℕ) (others : Entries) : Type 0 where
  pub begins : others.base ≡ base
  pub first : others.list.first ≡ field s objects l complement_list
  pub many : others.list.count ≡ number s objects l complement_list
