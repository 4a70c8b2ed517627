-- Figures and clashes. Document 02, L1: "the figures with their records", "words taken as signed", "kinds and shares". Assumes nothing.
use Rattle.std.specs.Prelude.{ℕ, zero, suc, Bool, cond, ℤ, pos, Option, Some, None}
use Rattle.std.specs.Option.{option_or}
use Rattle.sheet.specs.Words.{Sheet}
use Rattle.sheet.specs.Layout.{field}
use Rattle.sheet.specs.Fields.{objects, value_sets}
use Rattle.values.specs.Signed.{signed_of}
use Rattle.figures.specs.declared.FigureNumber.{FigureNumber}
use Rattle.figures.specs.declared.FigureNumber.TheVariants.{Word, Derived}
use Rattle.figures.specs.declared.Figure.{Figure}
use Rattle.figures.specs.declared.WordPlace.{WordPlace}
use Rattle.figures.specs.declared.Clash.{Clash}

-- "words taken as signed"; kinds and shares print as they are
abbrev pub printed : FigureNumber → ℤ
printed (Word w) = signed_of w
printed (Derived n) = pos n

-- the place of a word of an object, of a value set
abbrev pub in_object : ℕ → ℕ → WordPlace
in_object o at = record { section = objects; index = o; at = at }

abbrev pub in_set : ℕ → ℕ → WordPlace
in_set v at = record { section = value_sets; index = v; at = at }

-- the word at a place, and as a figure
abbrev pub word_at : Sheet → WordPlace → ℕ
word_at s place = field s place.section place.index place.at

abbrev pub told : Sheet → WordPlace → Figure
told s place = record { section = place.section; index = place.index; number = Word (word_at s place) }

-- two figures side by side, where they break the rule
abbrev pub clash : Bool → Figure → Figure → Option Clash
clash found first second = cond found (Some (record { first = first; second = second })) None

-- no figure
abbrev pub no_figure : Figure
no_figure = record { section = 0; index = 0; number = Word 0 }

-- "Of several clashes in that record the first is told"
unfoldable pub earlier : Option Clash → Option Clash → Option Clash
earlier a b = option_or a b

-- the first of the clashes that f gives the numbers below n
unfoldable pub first_below : (ℕ → Option Clash) → ℕ → Option Clash
first_below f zero = None
first_below f (suc n) = earlier (first_below f n) (f n)
