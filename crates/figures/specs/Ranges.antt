-- Rule 18. Document 02, L1: "the value, then the bound". The value's record is where its word stands, the bound's where that word stands.
-- "Of several clashes in that record the first is told: [..] in the rule's order, then gain before offset, minimum before maximum."
-- Assumes nothing.
use Rattle.std.specs.Prelude.{ℕ, Bool, cond, not, ◌&&◌, eqb, Option}
use lib.Signed.{le_z}
use Rattle.sheet.specs.Words.{Sheet}
use Rattle.sheet.specs.Layout.{field}
use Rattle.sheet.specs.Fields.{objects, value_sets, set_own}
use Rattle.values.specs.declared.Sort.{Sort}
use Rattle.values.specs.declared.Sort.TheVariants.{Gains, Offsets}
use Rattle.values.specs.Signed.{signed_of}
use Rattle.values.specs.Gain.{gain_of, at_most}
use Rattle.values.specs.Values.{is_absent}
use Rattle.profile.specs.Relations.{owner, object_value, object_minimum, object_maximum, set_value, set_minimum, set_maximum}
use Rattle.profile.specs.Rules.{leaves}
use Rattle.figures.specs.declared.WordPlace.{WordPlace}
use Rattle.figures.specs.declared.Clash.{Clash}
use Rattle.figures.specs.Clashes.{in_object, in_set, word_at, told, clash, earlier}

-- the word w is at most the word x: "silence is below every number"
unfoldable pub ordered : Sort → ℕ → ℕ → Bool
ordered Gains w x = at_most (gain_of w) (gain_of x)
ordered Offsets w x = le_z (signed_of w) (signed_of x)

-- a value is below a minimum
unfoldable pub below_minimum : Sort → ℕ → ℕ → Bool
below_minimum t value minimum = not (ordered t minimum value)

-- "minimum before maximum": the bound that a value outside its range is told with
unfoldable pub bound_place : Sheet → Sort → WordPlace → WordPlace → WordPlace → WordPlace
bound_place s t value minimum maximum = cond (below_minimum t (word_at s value) (word_at s minimum)) minimum maximum

-- a value against a range, each by its place. "(absent is 0)": an absent value lies in every range and never clashes
unfoldable pub range_clash : Sheet → Sort → WordPlace → WordPlace → WordPlace → Option Clash
range_clash s t value minimum maximum =
    clash (not (is_absent (word_at s value)) && leaves t (word_at s value) (word_at s minimum) (word_at s maximum)) (told s value)
    (told s (bound_place s t value minimum maximum))

-- "An object's gain or offset [..] leaves its range"
unfoldable pub object_clash : Sheet → ℕ → Sort → Option Clash
object_clash s o t = range_clash s t (in_object o (object_value t)) (in_object o (object_minimum t)) (in_object o (object_maximum t))

-- "the effective gain and offset are its own, else the object's": where the effective value of set v of object o stands
unfoldable pub effective_place : Sheet → ℕ → ℕ → Sort → WordPlace
effective_place s o v t = cond (is_absent (field s value_sets v (set_value t))) (in_object o (object_value t)) (in_set v (set_value t))

-- "its effective ranges are its own four words where own is 1, else the object's": where such a word stands
unfoldable pub range_place : Sheet → ℕ → ℕ → ℕ → ℕ → WordPlace
range_place s o v inside outside = cond (eqb (field s value_sets v set_own) 1) (in_set v inside) (in_object o outside)

-- "a set's effective one leaves the effective range"
unfoldable pub effective_clash : Sheet → ℕ → ℕ → Sort → Option Clash
effective_clash s o v t =
    range_clash s t (effective_place s o v t) (range_place s o v (set_minimum t) (object_minimum t)) (range_place s o v (set_maximum t) (object_maximum t))

-- "or a set's own one leaves the object's range"
unfoldable pub own_clash : Sheet → ℕ → ℕ → Sort → Option Clash
own_clash s o v t = range_clash s t (in_set v (set_value t)) (in_object o (object_minimum t)) (in_object o (object_maximum t))

-- the first clash of an object, and of set v of object o
unfoldable pub object_clashes : Sheet → ℕ → Option Clash
object_clashes s o = earlier (object_clash s o Gains) (object_clash s o Offsets)

unfoldable pub set_clashes : Sheet → ℕ → ℕ → Option Clash
set_clashes s o v =
    earlier (earlier (effective_clash s o v Gains) (effective_clash s o v Offsets)) (earlier (own_clash s o v Gains) (own_clash s o v Offsets))

-- the first clash of a record that breaks rule 18
unfoldable pub range_clashes : Sheet → ℕ → ℕ → Option Clash
range_clashes s section k = cond (eqb section objects) (object_clashes s k) (set_clashes s (owner s k) k)
