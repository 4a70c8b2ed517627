-- What entering a programme leaves in the table of what is included. Assumes nothing.
use Rattle.std.specs.Prelude.{ℕ, ◌+◌, ◌*◌, ◌<◌, ◌≡◌, Bool, true, false, cond, List, eqb, length, get_or}
use Rattle.sheet.specs.Words.{Sheet, word}
use Rattle.sheet.specs.Layout.{count, offset, field, number, entry}
use Rattle.sheet.specs.Fields.{programmes, contents, references, value_sets, content_list, set_list, content_object}
use Rattle.profile.specs.Counting.{any}
use Rattle.profile.specs.Relations.{named_set}
use Rattle.profile.specs.Rules.{owner_at}
use Rattle.tables.specs.steps.Marks.{Standing}
use Rattle.inclusion.specs.declared.SectionOffsets.{SectionOffsets}
use Rattle.inclusion.specs.steps.Alike.{representative}

-- where sections 6, 2 and 7 begin
abbrev pub Begins : Sheet → SectionOffsets → Type 0
Begins s sections = (sections.references ≡ offset s references) × (sections.contents ≡ offset s contents) × (sections.sets ≡ offset s value_sets)

-- the object of the content that entry i of the list from an index of section 6 on names
unfoldable pub object_from : Sheet → SectionOffsets → ℕ → ℕ → ℕ
object_from s sections from i = word s (sections.contents + word s (sections.references + (from + i)) * 5 + 1)

-- the object of a content that the programme names
unfoldable pub object_at : Sheet → ℕ → ℕ → ℕ
object_at s p i = field s contents (entry s programmes p content_list i) content_object

-- the places f 0 to f (n - 1), no two the same, had one number and have another; the other places have what they had
abbrev pub Changed : (ℕ → ℕ) → ℕ → ℕ → ℕ → List ℕ → List ℕ → Type 0
Changed f n from to t t' =
    ((k : ℕ) → k < n → f k < length t)
    × ((k : ℕ) → k < n → get_or t (f k) 0 ≡ from)
    × ((k : ℕ) → k < n → any (λ i. eqb (f i) (f k)) k ≡ false)
    × Standing (λ x. cond (any (λ i. eqb (f i) x) n) to (get_or t x 0)) t'

-- the places f 0 to f (n - 1), no two the same, had 1 and have 2 more than e 0 to e (n - 1); the other places have what they had
abbrev pub Noted : (ℕ → ℕ) → (ℕ → ℕ) → ℕ → List ℕ → List ℕ → Type 0
Noted f e n t t' =
    ((k : ℕ) → k < n → f k < length t)
    × ((k : ℕ) → k < n → get_or t (f k) 0 ≡ 1)
    × ((k : ℕ) → k < n → any (λ i. eqb (f i) (f k)) k ≡ false)
    × ((k : ℕ) → k < n → get_or t' (f k) 0 ≡ e k + 2)
    × ((x : ℕ) → x < length t → any (λ i. eqb (f i) x) n ≡ false → get_or t' x 0 ≡ get_or t x 0)

-- the objects that a programme includes had 0 and have 1
abbrev pub ObjectsEntered : Sheet → ℕ → List ℕ → List ℕ → Type 0
ObjectsEntered s p t t' = Changed (object_at s p) (number s programmes p content_list) 0 1 t t'

-- the first n sets that a programme names are noted, each by the set that stands for it, and are sets of the sheet
pub record SetsNotedTo (s : Sheet) (alike : List ℕ) (p n : ℕ) (t t' : List ℕ) : Type 0 where
  pub noted : Noted (owner_at s p) (λ j. representative alike (named_set s p j)) n t t'
  pub inside : (j : ℕ) → j < n → named_set s p j < count s value_sets

-- all are
abbrev pub SetsNoted : Sheet → List ℕ → ℕ → List ℕ → List ℕ → Type 0
SetsNoted s alike p t t' = SetsNotedTo s alike p (number s programmes p set_list) t t'

-- what the programme includes is entered and, with both, the sets that it names are noted
pub record Entered (s : Sheet) (both : Bool) (alike : List ℕ) (p : ℕ) (t t' : List ℕ) : Type 0 where
  pub marked : List ℕ
  pub long : length marked ≡ length t
  pub objects : ObjectsEntered s p t marked
  pub sets : both ≡ true → (length t' ≡ length marked) × SetsNoted s alike p marked t'
  pub alone : both ≡ false → t' ≡ marked
