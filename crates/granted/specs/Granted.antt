-- What a programme gives its objects: start values, granted ranges, groups to choose in. Document 01, "The listener", second paragraph.
-- Assumes nothing.
use Rattle.std.specs.Prelude.{ℕ, Bool, cond, not, ◌&&◌, ◌||◌}
use Rattle.sheet.specs.Words.{Sheet}
use Rattle.sheet.specs.Layout.{field}
use Rattle.sheet.specs.Fields.{objects}
use Rattle.values.specs.declared.Sort.{Sort}
use Rattle.values.specs.Values.{is_absent}
use Rattle.profile.specs.Relations.{leader, leader_of, wholly_included, names_set, set_for, object_minimum, object_maximum, own_value, effective_value, effective_minimum, effective_maximum}

-- "included objects take the effective gain and offset of the set that the programme names, or their own, or 0"
unfoldable pub start_value : Sheet → ℕ → ℕ → Sort → ℕ
start_value s p o t = cond (names_set s p o) (effective_value s o (set_for s p o) t) (own_value s o t)

-- "ranges come from the programme's set, else the object"; "The range granted to an object is the effective one of the set which that
-- programme names for it, or the object's where it names none"
unfoldable pub granted_minimum : Sheet → ℕ → ℕ → Sort → ℕ
granted_minimum s p o t = cond (names_set s p o) (effective_minimum s o (set_for s p o) t) (field s objects o (object_minimum t))

unfoldable pub granted_maximum : Sheet → ℕ → ℕ → Sort → ℕ
granted_maximum s p o t = cond (names_set s p o) (effective_maximum s o (set_for s p o) t) (field s objects o (object_maximum t))

-- the sheet grants the object a range of that sort
unfoldable pub grants : Sheet → ℕ → ℕ → Sort → Bool
grants s p o t = not (is_absent (granted_minimum s p o t))

-- the object is in a group that the programme wholly includes
unfoldable pub in_whole_group : Sheet → ℕ → ℕ → Bool
in_whole_group s p o = leader s (leader_of s o) && wholly_included s p (leader_of s o)

-- "Active are included objects, but of a wholly included group the leader only."
unfoldable pub starts_active : Sheet → ℕ → ℕ → Bool
starts_active s p o = not (in_whole_group s p o) || leader s o
