-- The groups by the leaders of a programme's objects: what a table has of them. Assumes nothing.
use Rattle.std.specs.Prelude.{ℕ, ◌+◌, ◌-◌, ◌*◌, ◌<◌, ◌≤◌, ◌≡◌, List, ◌⊎◌, eqb, length, get_or}
use Rattle.sheet.specs.Words.{Sheet}
use Rattle.sheet.specs.Layout.{count, number}
use Rattle.sheet.specs.Fields.{programmes, objects, content_list}
use Rattle.profile.specs.Counting.{how_many}
use Rattle.profile.specs.Relations.{leader_of}
use Rattle.tables.specs.steps.Marks.{Standing}
use Rattle.inclusion.specs.steps.Groups.{GroupKept}
use Rattle.inclusion.specs.steps.Entering.{object_at}

-- the leader of the object of a content that the programme names
unfoldable pub group_at : Sheet → ℕ → ℕ → ℕ
group_at s p i = leader_of s (object_at s p i)

-- no place of a table has more than k
abbrev pub UpTo : ℕ → List ℕ → Type 0
UpTo k t = (x : ℕ) → x < length t → get_or t x 0 ≤ k

-- An object more of leader l's group, where a table had h and has h' of the groups. Up to seen none was there, now one is; or there was
-- one, and now the group was asked for; or it was before.
abbrev pub AskedFor : Sheet → List ℕ → ℕ → ℕ → List ℕ → List ℕ → Type 0
AskedFor s t seen l h h' =
    (l < length h)
    × ((x : ℕ) → x < length h → (l ≡ x → ⊥) → get_or h' x 0 ≡ get_or h x 0)
    × (((get_or h l 0 ≤ seen) × (get_or h' l 0 ≡ seen + 1)) ⊎ ((GroupKept s t l × (get_or h' l 0 ≡ seen + 2)) ⊎ ((seen + 1 < get_or h l 0) × (get_or h' l 0 ≡ get_or h l 0))))

-- The first i contents of a programme, in a table that had no more than seen: a place has one more where one of them is of its group, and
-- two more only where the group is kept.
abbrev pub Asked : Sheet → ℕ → List ℕ → ℕ → ℕ → List ℕ → List ℕ → Type 0
Asked s p t seen i h h' =
    UpTo seen h
    → UpTo (seen + 2) h'
    × ((l : ℕ) → l < length h' → (get_or h' l 0 ≤ seen + 1 → how_many (λ k. eqb (group_at s p k) l) i ≤ get_or h' l 0 - seen) × (seen + 1 < get_or h' l 0 → GroupKept s t l))

-- all contents of programme p, with 2 p as what was seen before
abbrev pub AllAsked : Sheet → ℕ → List ℕ → List ℕ → List ℕ → Type 0
AllAsked s p t h h' = Asked s p t (2 * p) (number s programmes p content_list) h h'

-- the tables before programme p: nothing is included, and no group was seen
abbrev pub Ready : Sheet → ℕ → List ℕ → List ℕ → Type 0
Ready s p t h = (length t ≡ count s objects) × Standing (λ x. 0) t × (length h ≡ count s objects) × UpTo (2 * p) h
