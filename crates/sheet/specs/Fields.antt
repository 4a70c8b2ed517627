-- Sections by name, and the positions of a record's words. Document 01, "The sheet", sections 1 to 7. Assumes nothing.
use Rattle.std.specs.Prelude.{ℕ}

-- Sections
abbrev pub header : ℕ
header = 0

abbrev pub programmes : ℕ
programmes = 1

abbrev pub contents : ℕ
contents = 2

abbrev pub objects : ℕ
objects = 3

abbrev pub packs : ℕ
packs = 4

abbrev pub tracks : ℕ
tracks = 5

abbrev pub references : ℕ
references = 6

abbrev pub value_sets : ℕ
value_sets = 7

-- "1. Programme, 8 words: language; content list; set list; label list; loudness."
abbrev pub programme_language : ℕ
programme_language = 0

abbrev pub content_list : ℕ
content_list = 1

abbrev pub set_list : ℕ
set_list = 3

abbrev pub programme_labels : ℕ
programme_labels = 5

abbrev pub programme_loudness : ℕ
programme_loudness = 7

-- "2. Content, 5: language; object; label list; loudness."
abbrev pub content_language : ℕ
content_language = 0

abbrev pub content_object : ℕ
content_object = 1

abbrev pub content_labels : ℕ
content_labels = 2

abbrev pub content_loudness : ℕ
content_loudness = 4

-- "3. Object, 16: pack (65535 = none); track list; child list; complement list; interact 0 or 1; gain; gain minimum, gain maximum;
-- offset; offset minimum, offset maximum; set span."
abbrev pub object_pack : ℕ
object_pack = 0

abbrev pub no_pack : ℕ
no_pack = 65535

abbrev pub track_list : ℕ
track_list = 1

abbrev pub child_list : ℕ
child_list = 3

abbrev pub complement_list : ℕ
complement_list = 5

abbrev pub interact : ℕ
interact = 7

abbrev pub object_gain : ℕ
object_gain = 8

abbrev pub object_gain_minimum : ℕ
object_gain_minimum = 9

abbrev pub object_gain_maximum : ℕ
object_gain_maximum = 10

abbrev pub object_offset : ℕ
object_offset = 11

abbrev pub object_offset_minimum : ℕ
object_offset_minimum = 12

abbrev pub object_offset_maximum : ℕ
object_offset_maximum = 13

abbrev pub set_span : ℕ
set_span = 14

-- "4. Pack, 3: kind (1 DirectSpeakers, 3 Objects); channels; front (1 if every block lies at azimuth 0, elevation 0, distance 1, else 0)."
abbrev pub pack_kind : ℕ
pack_kind = 0

abbrev pub pack_channels : ℕ
pack_channels = 1

abbrev pub pack_front : ℕ
pack_front = 2

-- "5. Track, 2: pack; ordinal, counted from 0"
abbrev pub track_pack : ℕ
track_pack = 0

abbrev pub track_ordinal : ℕ
track_ordinal = 1

-- "7. Value set, 7: gain; own 0 or 1; gain minimum, gain maximum; offset; offset minimum, offset maximum."
abbrev pub set_gain : ℕ
set_gain = 0

abbrev pub set_own : ℕ
set_own = 1

abbrev pub set_gain_minimum : ℕ
set_gain_minimum = 2

abbrev pub set_gain_maximum : ℕ
set_gain_maximum = 3

abbrev pub set_offset : ℕ
set_offset = 4

abbrev pub set_offset_minimum : ℕ
set_offset_minimum = 5

abbrev pub set_offset_maximum : ℕ
set_offset_maximum = 6
