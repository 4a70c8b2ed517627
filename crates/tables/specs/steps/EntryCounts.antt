-- Which entries of lists are counted. Assumes nothing.
use Rattle.std.specs.Prelude.{ℕ, ◌+◌, cond, eqb}
use Rattle.sheet.specs.Words.{Sheet}
use Rattle.sheet.specs.Layout.{number}
use Rattle.sheet.specs.Fields.{programmes, contents, objects, content_list, set_list, programme_labels, content_labels, track_list, child_list, complement_list}

-- how many entries the lists of a record have
unfoldable pub list_entries : Sheet → ℕ → ℕ → ℕ
list_entries s section k =
    cond (eqb section programmes) (number s section k content_list + number s section k set_list + number s section k programme_labels)
    (cond (eqb section contents) (number s section k content_labels)
    (cond (eqb section objects) (number s section k track_list + number s section k child_list + number s section k complement_list) 0))
