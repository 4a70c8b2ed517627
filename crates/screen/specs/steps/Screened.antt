-- What the screening of a sheet tests of a record. Assumes nothing.
use Rattle.std.specs.List.{list_any, range_with_len}
use Rattle.std.specs.Prelude.{ℕ, ◌<◌, Bool, false, ◌||◌, ◌≡◌, List}
use Rattle.sheet.specs.Words.{Sheet}
use Rattle.sheet.specs.Layout.{count}
use Rattle.sheet.specs.Fields.{programmes, contents, objects, packs, tracks, value_sets}
use Rattle.profile.specs.Counting.{any}
use Rattle.profile.specs.Rules.{bad_pack, rule1, rule2, rule3, rule5, rule7, rule10, rule11, rule12, rule23, rule24}
use Rattle.tables.specs.steps.Marks.{Standing}
use Rattle.tables.specs.steps.Right.{Named, Listed, ObjectsTabled}
use Rattle.screen.specs.declared.RecordTables.{RecordTables}
use Rattle.screen.specs.declared.screening.SheetTables.{SheetTables}
use Rattle.lists.specs.steps.Speech.{content_broken, programme_broken}
use Rattle.screen.specs.steps.Objects.{object_broken}

-- the header breaks rule 1 or 2, or a section rule 3 or 7
unfoldable pub header_broken : Sheet → Bool
header_broken s =
    rule1 s 0 0
    || rule2 s 0 0
    || list_any (λ section. rule3 s section 0) (range_with_len 1 7)
    || list_any (λ section. rule7 s section 0) (range_with_len 1 5)

-- no record of sections 1 to 5 breaks a rule from 4 to 20; an object, also by a set of its. Rule 12 is that of contents
pub record RecordsKept (s : Sheet) (langs : List ℕ) : Type 0 where
  pub programmes_kept : any (programme_broken s langs) (count s programmes) ≡ false
  pub contents_kept : any (λ k. content_broken s langs k || rule12 s contents k) (count s contents) ≡ false
  pub objects_kept : any (object_broken s) (count s objects) ≡ false
  pub packs_kept : any (λ k. bad_pack s k || rule10 s packs k) (count s packs) ≡ false
  pub tracks_kept : any (rule5 s tracks) (count s tracks) ≡ false

-- the tables that the records are tested with are right
abbrev pub RecordsTabled : Sheet → RecordTables → Type 0
RecordsTabled s t = Named s t.named.now × Listed s t.listed.now × ObjectsTabled s t.objects

-- they do, each value set is in one span, and the whole sheet keeps rules 23 and 24
pub record RecordsAndTotalsKept (s : Sheet) (langs : List ℕ) : Type 0 where
  pub records : RecordsKept s langs
  pub set_once : (v : ℕ) → v < count s value_sets → rule11 s value_sets v ≡ false
  pub groups : rule23 s 0 0 ≡ false
  pub tracks : rule24 s 0 0 ≡ false

-- the six tables that the screening begins with have only noughts
abbrev pub Noughts : SheetTables → Type 0
Noughts t =
    Standing (λ x. 0) t.named.now
    × Standing (λ x. 0) t.spanned.now
    × Standing (λ x. 0) t.listed.now
    × Standing (λ x. 0) t.tops.now
    × Standing (λ x. 0) t.complements.now
    × Standing (λ x. 0) t.owners.now
