-- What passes over the namings leave in a table. Assumes nothing.
use Rattle.std.specs.Prelude.{ℕ, zero, suc, ◌<◌, ◌≡◌, Bool, cond, List, eqb, length, get_or}
use Rattle.sheet.specs.Words.{Sheet}
use Rattle.profile.specs.Counting.{any, how_many, sum}
use Rattle.tables.specs.declared.Naming.{Naming}
use Rattle.tables.specs.steps.Namings.{namers, items, item}

-- the table has g at each index
abbrev pub Standing : (ℕ → ℕ) → List ℕ → Type 0
Standing g t = (x : ℕ) → x < length t → get_or t x 0 ≡ g x

-- whatever a closure gives a number below n is f of that number
abbrev pub NumbersBelow : ℕ → (ℕ → ℕ → Type 0) → (ℕ → ℕ) → Type 0
NumbersBelow n gives f = (i r : ℕ) → i < n → gives i r → r ≡ f i

-- what a count goes to: 0, 1, 2, 2 and so on
abbrev pub counted_once : ℕ → ℕ
counted_once c = cond (eqb c 0) 1 2

-- a number where 0 stands, else what stands there
abbrev pub first_stored : ℕ → ℕ → ℕ
first_stored v c = cond (eqb c 0) v c

-- f, so many times
unfoldable pub repeat : (ℕ → ℕ) → ℕ → ℕ → ℕ
repeat f zero c = c
repeat f (suc n) c = f (repeat f n c)

-- the table has kept its length, and has g at each index
abbrev pub Filled : (ℕ → ℕ) → List ℕ → List ℕ → Type 0
Filled g t t' = (length t' ≡ length t) × Standing g t'

-- what x has in the table after f, as many times as n says of it
abbrev pub after_marks : (ℕ → ℕ) → (ℕ → ℕ) → List ℕ → ℕ → ℕ
after_marks f n t x = repeat f (n x) (get_or t x 0)

-- f was done at each place so many times
abbrev pub MarkedTimes : (ℕ → ℕ) → (ℕ → ℕ) → List ℕ → List ℕ → Type 0
MarkedTimes f n t t' = Filled (after_marks f n t) t t'

-- how often record q names x
unfoldable pub times_by : Sheet → Naming → ℕ → ℕ → ℕ
times_by s kind q x = how_many (λ i. eqb (item s kind q i) x) (items s kind q)

-- how often the records before q name x
abbrev pub named_before : Sheet → Naming → ℕ → ℕ → ℕ
named_before s kind q x = sum (λ j. times_by s kind j x) q

-- how often x is named
unfoldable pub named_by : Sheet → Naming → ℕ → ℕ
named_by s kind x = named_before s kind (namers s kind) x

-- record q names x
unfoldable pub names_by : Sheet → Naming → ℕ → ℕ → Bool
names_by s kind q x = any (λ i. eqb (item s kind q i) x) (items s kind q)

-- one more than the first of the n numbers from i on that has p, else d
unfoldable pub first_from : (ℕ → Bool) → ℕ → ℕ → ℕ → ℕ
first_from p d i zero = d
first_from p d i (suc n) = let rest = first_from p d (suc i) n in cond (p i) (suc i) rest

-- one more than the number of the first record that names x, else d
unfoldable pub first_by : Sheet → Naming → ℕ → ℕ → ℕ
first_by s kind x d = first_from (λ q. names_by s kind q x) d 0 (namers s kind)

-- each naming was counted
abbrev pub NamingsCounted : Sheet → Naming → List ℕ → List ℕ → Type 0
NamingsCounted s kind = MarkedTimes counted_once (named_by s kind)
