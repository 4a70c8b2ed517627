-- Rule 20. Document 02, L1: "the leader's, then the member's unequal word or kind". "Of several clashes in that record the first is told:
-- by member in list order, then in the rule's order, then gain before offset, minimum before maximum." Assumes nothing.
use Rattle.std.specs.Prelude.{ℕ, not, List, [], ◌∷◌, eqb, get_or, Option}
use Rattle.sheet.specs.Words.{Sheet}
use Rattle.sheet.specs.Layout.{field, number, entry}
use Rattle.sheet.specs.Fields.{objects, complement_list, interact, object_gain, object_gain_minimum, object_gain_maximum, object_offset, object_offset_minimum, object_offset_maximum}
use Rattle.profile.specs.Relations.{kind}
use Rattle.figures.specs.declared.Figure.{Figure}
use Rattle.figures.specs.declared.FigureNumber.TheVariants.{Derived}
use Rattle.figures.specs.declared.Clash.{Clash}
use Rattle.figures.specs.Clashes.{in_object, told, clash, earlier, first_below}

-- "interact, gain, offset, the four range words", in this order
abbrev pub compared : List ℕ
compared =
    interact ∷ object_gain ∷ object_offset ∷ object_gain_minimum ∷ object_gain_maximum ∷ object_offset_minimum ∷ object_offset_maximum ∷ []

abbrev pub compared_at : ℕ → ℕ
compared_at i = get_or compared i 0

-- how many words are compared
abbrev pub compared_count : ℕ
compared_count = 7

-- a word of leader l against that of member q
unfoldable pub word_clash : Sheet → ℕ → ℕ → ℕ → Option Clash
word_clash s l q at = clash (not (eqb (field s objects l at) (field s objects q at))) (told s (in_object l at)) (told s (in_object q at))

-- "or kind": it stands under the object
abbrev pub kind_figure : Sheet → ℕ → Figure
kind_figure s o = record { section = objects; index = o; number = Derived (kind s o) }

unfoldable pub kind_clash : Sheet → ℕ → ℕ → Option Clash
kind_clash s l q = clash (not (eqb (kind s l) (kind s q))) (kind_figure s l) (kind_figure s q)

-- the first unequal word
unfoldable pub word_clashes : Sheet → ℕ → ℕ → Option Clash
word_clashes s l q = first_below (λ i. word_clash s l q (compared_at i)) compared_count

-- what a leader and a member differ in first
unfoldable pub member_clash : Sheet → ℕ → ℕ → Option Clash
member_clash s l q = earlier (word_clashes s l q) (kind_clash s l q)

-- the first clash of a leader, "by member in list order"
unfoldable pub leader_clash : Sheet → ℕ → Option Clash
leader_clash s l = first_below (λ i. member_clash s l (entry s objects l complement_list i)) (number s objects l complement_list)
