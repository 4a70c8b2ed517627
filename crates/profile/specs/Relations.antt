-- What the rules and the listener share. Document 01, "The sheet", last paragraph, and "Level limits", last paragraph. Assumes nothing.
use Rattle.std.specs.Prelude.{ℕ, zero, suc, ◌+◌, Bool, cond, not, ◌&&◌, eqb, leb, ltb}
use Rattle.sheet.specs.Words.{Sheet}
use Rattle.sheet.specs.Layout.{count, field, first, number, entry}
use Rattle.sheet.specs.Fields.{programmes, contents, objects, packs, value_sets, content_list, set_list, content_object, object_pack, no_pack, track_list, child_list, complement_list, object_gain, object_gain_minimum, object_gain_maximum, object_offset, object_offset_minimum, object_offset_maximum, set_span, pack_kind, pack_channels, pack_front, set_gain, set_own, set_gain_minimum, set_gain_maximum, set_offset, set_offset_minimum, set_offset_maximum}
use Rattle.values.specs.declared.Sort.{Sort}
use Rattle.values.specs.declared.Sort.TheVariants.{Gains, Offsets}
use Rattle.values.specs.Values.{or_else}
use Rattle.profile.specs.Counting.{any, how_many, sum, largest, lowest}

-- the list at a position of a record has x among its entries
unfoldable pub lists : Sheet → ℕ → ℕ → ℕ → ℕ → Bool
lists s section k at x = any (λ i. eqb (entry s section k at i) x) (number s section k at)

-- how often the list at a position of a record names x
unfoldable pub times : Sheet → ℕ → ℕ → ℕ → ℕ → ℕ
times s section k at x = how_many (λ i. eqb (entry s section k at i) x) (number s section k at)

-- "pack (65535 = none)"
unfoldable pub pack_of : Sheet → ℕ → ℕ
pack_of s o = field s objects o object_pack

unfoldable pub has_pack : Sheet → ℕ → Bool
has_pack s o = not (eqb (pack_of s o) no_pack)

unfoldable pub has_children : Sheet → ℕ → Bool
has_children s o = ltb 0 (number s objects o child_list)

-- the object has a pack of kind 3
unfoldable pub has_objects_pack : Sheet → ℕ → Bool
has_objects_pack s o = has_pack s o && eqb (field s packs (pack_of s o) pack_kind) 3

-- the object has a pack of kind 3 with front 1
unfoldable pub has_front_pack : Sheet → ℕ → Bool
has_front_pack s o = has_objects_pack s o && eqb (field s packs (pack_of s o) pack_front) 1

-- "A top object is one that a content names."
unfoldable pub top : Sheet → ℕ → Bool
top s o = any (λ c. eqb (field s contents c content_object) o) (count s contents)

-- "Its kind is its pack's, or 3 if it has children."
unfoldable pub kind : Sheet → ℕ → ℕ
kind s o = cond (has_children s o) 3 (field s packs (pack_of s o) pack_kind)

-- "a leader (an object with complements)"
unfoldable pub leader : Sheet → ℕ → Bool
leader s o = ltb 0 (number s objects o complement_list)

-- some complement list names the object
unfoldable pub complement : Sheet → ℕ → Bool
complement s o = any (λ l. lists s objects l complement_list o) (count s objects)

-- "A group is a leader [..] followed by those it lists." Member i of a leader's group
unfoldable pub member : Sheet → ℕ → ℕ → ℕ
member s l zero = l
member s l (suc i) = entry s objects l complement_list i

-- how many members the group has
unfoldable pub members : Sheet → ℕ → ℕ
members s l = suc (number s objects l complement_list)

-- the leader of an object's group: the object that lists it, else itself
unfoldable pub leader_of : Sheet → ℕ → ℕ
leader_of s o = cond (complement s o) (lowest (λ l. lists s objects l complement_list o) (count s objects)) o

-- a top object in no group
unfoldable pub lone : Sheet → ℕ → Bool
lone s o = top s o && not (leader s o) && not (complement s o)

-- "A programme includes the top objects of its contents"
unfoldable pub includes : Sheet → ℕ → ℕ → Bool
includes s p o =
    any (λ i. eqb (field s contents (entry s programmes p content_list i) content_object) o) (number s programmes p content_list)

-- how many members of a leader's group the programme includes
unfoldable pub included : Sheet → ℕ → ℕ → ℕ
included s p l = how_many (λ i. includes s p (member s l i)) (members s l)

-- "a group is wholly included if all its members are"
unfoldable pub wholly_included : Sheet → ℕ → ℕ → Bool
wholly_included s p l = eqb (included s p l) (members s l)

-- "a set span is the same into section 7": value set v is in the span of object o, it is a set of that object
unfoldable pub has_set : Sheet → ℕ → ℕ → Bool
has_set s o v = leb (first s objects o set_span) v && ltb v (first s objects o set_span + number s objects o set_span)

-- the object whose set v is, the number of objects where there is none
unfoldable pub owner : Sheet → ℕ → ℕ
owner s v = lowest (λ o. has_set s o v) (count s objects)

-- the set at a position of the programme's set list
unfoldable pub named_set : Sheet → ℕ → ℕ → ℕ
named_set s p i = entry s programmes p set_list i

-- the programme names a set for the object
unfoldable pub names_set : Sheet → ℕ → ℕ → Bool
names_set s p o = any (λ i. has_set s o (named_set s p i)) (number s programmes p set_list)

-- the set that the programme names for the object
unfoldable pub set_for : Sheet → ℕ → ℕ → ℕ
set_for s p o = named_set s p (lowest (λ i. has_set s o (named_set s p i)) (number s programmes p set_list))

-- where an object has the value of a sort, and the range's minimum and maximum
abbrev pub object_value : Sort → ℕ
object_value Gains = object_gain
object_value Offsets = object_offset

abbrev pub object_minimum : Sort → ℕ
object_minimum Gains = object_gain_minimum
object_minimum Offsets = object_offset_minimum

abbrev pub object_maximum : Sort → ℕ
object_maximum Gains = object_gain_maximum
object_maximum Offsets = object_offset_maximum

-- the same for a value set
abbrev pub set_value : Sort → ℕ
set_value Gains = set_gain
set_value Offsets = set_offset

abbrev pub set_minimum : Sort → ℕ
set_minimum Gains = set_gain_minimum
set_minimum Offsets = set_offset_minimum

abbrev pub set_maximum : Sort → ℕ
set_maximum Gains = set_gain_maximum
set_maximum Offsets = set_offset_maximum

-- an object's own value, "absent is 0"
unfoldable pub own_value : Sheet → ℕ → Sort → ℕ
own_value s o t = or_else (field s objects o (object_value t)) 0

-- "For a set, the effective gain and offset are its own, else the object's, else 0"
unfoldable pub effective_value : Sheet → ℕ → ℕ → Sort → ℕ
effective_value s o v t = or_else (field s value_sets v (set_value t)) (own_value s o t)

-- "its effective ranges are its own four words where own is 1, else the object's"
unfoldable pub effective_minimum : Sheet → ℕ → ℕ → Sort → ℕ
effective_minimum s o v t = cond (eqb (field s value_sets v set_own) 1) (field s value_sets v (set_minimum t)) (field s objects o (object_minimum t))

unfoldable pub effective_maximum : Sheet → ℕ → ℕ → Sort → ℕ
effective_maximum s o v t = cond (eqb (field s value_sets v set_own) 1) (field s value_sets v (set_maximum t)) (field s objects o (object_maximum t))

-- "An object's size is its track count, or its children's added up."
unfoldable pub size : Sheet → ℕ → ℕ
size s o =
    cond (has_children s o) (sum (λ i. number s objects (entry s objects o child_list i) track_list) (number s objects o child_list))
    (number s objects o track_list)

-- "for each group the largest member, plus every top object in no group": what an object adds to the counted tracks
unfoldable pub share : Sheet → ℕ → ℕ
share s o = cond (leader s o) (largest (λ i. size s (member s o i)) (members s o)) (cond (lone s o) (size s o) 0)

-- "Counted tracks (004, 2.3.5)"
unfoldable pub counted_tracks : Sheet → ℕ
counted_tracks s = sum (share s) (count s objects)

-- "groups"
unfoldable pub groups : Sheet → ℕ
groups s = how_many (leader s) (count s objects)

-- "groups plus top objects in no group"
unfoldable pub units : Sheet → ℕ
units s = groups s + how_many (lone s) (count s objects)

-- how often contents and child lists name an object
unfoldable pub namings : Sheet → ℕ → ℕ
namings s o =
    how_many (λ c. eqb (field s contents c content_object) o) (count s contents) + sum (λ q. times s objects q child_list o) (count s objects)

-- how many tracks an object has to have: its pack's channels, "(0 with children)"
unfoldable pub channels : Sheet → ℕ → ℕ
channels s o = cond (has_children s o) 0 (field s packs (pack_of s o) pack_channels)

-- track i of the object's list
unfoldable pub track_at : Sheet → ℕ → ℕ → ℕ
track_at s o i = entry s objects o track_list i
