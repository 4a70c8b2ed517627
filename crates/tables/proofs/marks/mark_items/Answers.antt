-- Each kind by its pass. Assumes nothing.
use Rattle.std.proofs.Common.{◌≡◌, ◌≢◌, ℕ, refl}
use Rattle.sheet.specs.Words.{Sheet, sheet_of}
use Rattle.tables.specs.declared.Naming.{Naming}
use Rattle.tables.specs.declared.Naming.TheVariants.{ContentObjects, Children, Complements, ContentLists, Included, SetLists, SetSpans}
use Rattle.tables.specs.steps.Marks.{times_by}
use Rattle.tables.specs.steps.Namings.{place_of}
use Rattle.profile.specs.Relations.{times}
use Rattle.tables.proofs.marks.mark_items.Goals as goal

-- but for three ways, what a record names are the entries of its list
listed : (s : Sheet) (kind : Naming) (q : ℕ) → kind ≢ ContentObjects → kind ≢ Included → kind ≢ SetSpans → times s (place_of kind).0 q (place_of kind).1 ≡ times_by s kind q
unfolding times_by times
listed s ContentObjects q a b c = absurd (a refl)
listed s Children q a b c = refl
listed s Complements q a b c = refl
listed s ContentLists q a b c = refl
listed s Included q a b c = absurd (b refl)
listed s SetLists q a b c = refl
listed s SetSpans q a b c = absurd (c refl)

pub returns-in_default : goal.returns-in_default
returns-in_default g c =
    λ f h. let a = c.args in let n = c.in_default in
    rw (← listed (sheet_of a.s.now) a.kind a.q n.not-ContentObjects n.not-Included n.not-SetSpans) (rw c.place_of-section.ensures at c.mark_entries.ensures f h)

pub returns-in-SetSpans : goal.returns-in-SetSpans
unfolding times_by
returns-in-SetSpans g c = λ f h.
    let e = c.mark_span.ensures f h in
    rw c.in-SetSpans.is (e.0, rw (c.at.ensures.first, c.at.ensures.count, c.place_of-section.ensures, c.in-SetSpans.is) at e.1)
