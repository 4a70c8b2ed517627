-- The seven words one after the other. Assumes nothing.
use mathlib.Core.Path.{refl, ◌∙◌}
use mathlib.Core.Bool.{not}
use borrow.Author.Rules.{rules}
use lib.Dec.{eqb}
use Rattle.std.proofs.lemmas.Iterator.{YieldsList-from_range}
use Rattle.std.proofs.lemmas.Iterator.Search.{any_from_yields_List}
use Rattle.sheet.specs.Fields.{objects, interact}
use Rattle.sheet.specs.Layout.{field}
use Rattle.sheet.specs.Words.{sheet_of}
use Rattle.screen.proofs.ObjectLaws.{seven_words}
use Rattle.screen.proofs.object_words.ObjectWords.words_differ.Goals as goal

pub returns : goal.returns
returns c =
    let a = c.args in
    any_from_yields_List (λ k. not (eqb (field (sheet_of a.self.now.s.now) objects a.self.now.o k) (field (sheet_of a.other.now.s.now) objects a.other.now.o k))) _ _ _ c.any.ensures.ran (YieldsList-from_range interact 14 7 refl refl) (λ x b q k. search rules)
    ∙ seven_words (λ k. not (eqb (field (sheet_of a.self.now.s.now) objects a.self.now.o k) (field (sheet_of a.other.now.s.now) objects a.other.now.o k)))
