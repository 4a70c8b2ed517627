-- What the pass over the programmes shows, and what it rests on. Assumes nothing.
use Rattle.std.specs.Prelude.{ℕ, ◌<◌, ◌≡◌, Bool, true, false}
use Rattle.sheet.specs.Words.{Sheet}
use Rattle.sheet.specs.Layout.{count}
use Rattle.sheet.specs.Fields.{programmes, objects, value_sets, content_list}
use Rattle.profile.specs.Counting.{any}
use Rattle.profile.specs.Rules.{repeats, rule11, rule19, rule21, rule22}

-- a programme names no content twice and keeps rule 21 and, with both, rule 22
abbrev pub ProgrammeKept : Sheet → Bool → ℕ → Type 0
ProgrammeKept s both p = (repeats s programmes p content_list ≡ false) × (rule21 s programmes p ≡ false) × (both ≡ true → rule22 s programmes p ≡ false)

-- the programmes before k do
abbrev pub KeptTo : Sheet → Bool → ℕ → Type 0
KeptTo s both k = (p : ℕ) → p < k → ProgrammeKept s both p

-- every programme names no content twice and keeps both
abbrev pub ProgrammesKept : Sheet → Type 0
ProgrammesKept s = KeptTo s true (count s programmes)

-- rule 11 is kept by the value sets: each is in one span
abbrev pub OneSpan : Sheet → Type 0
OneSpan s = any (rule11 s value_sets) (count s value_sets) ≡ false

-- rule 19 is kept: so no two groups have a member in common, and none has one twice
abbrev pub GroupsApart : Sheet → Type 0
GroupsApart s = any (rule19 s objects) (count s objects) ≡ false

-- the earlier rules that this rests on
abbrev pub GroupsGround : Sheet → Type 0
GroupsGround s = OneSpan s × GroupsApart s
