use Prim.Native.Nat.{ℕ, ◌+◌, ◌≤◌}
use mathlib.Core.Path.{◌≡◌, refl, sym, ap, ◌∙◌}
use native.Mathlib.Omega.{arith}
use borrow.Author.Rules.{rules}
use lib.Dec.{eqb}
use lib.ListN.{get_or}
use Rattle.sheet.specs.Words.{sheet_of}
use Rattle.sheet.specs.Layout.{field, number}
use Rattle.sheet.specs.Fields.{programmes, contents, content_list, content_object}
use Rattle.profile.specs.Counting.{any, how_many}
use Rattle.profile.specs.Relations.{includes}
use Rattle.tables.specs.declared.Naming.TheVariants.{Included}
use Rattle.tables.specs.steps.Namings.{item}
use Rattle.tables.specs.steps.Marks.{repeat, times_by}
use Rattle.tables.proofs.MarkLaws.{items_more}
use Rattle.tables.proofs.TableLaws.{included_marked}
use Rattle.listener.specs.State.{state_objects}
use Rattle.listener.proofs.RestLaws.{Past, past_raised, past_left}
use Rattle.listener.proofs.sounding.enter_included.Goals as goal
use Rattle.listener.proofs.sounding.enter_included.Goals.{then-o-lt-STATE_END, else-o-lt-STATE_END}

pub loop-i-init : goal.loop-i-init
unfolding any how_many repeat
loop-i-init c = (search rules, λ o a b. refl, refl, λ x l. refl)

pub loop-i-preserved : goal.loop-i-preserved
loop-i-preserved c =
    let m = c.mark_at.ensures (λ x. 1) (λ i r l q. search rules) in let l = c.loop-i in let a = c.args in let g = item (sheet_of a.s.now) Included a.p in
    let o = c.field-o.result in
    let named : o ≡ g l.i = c.field-o.ensures ∙ ap (λ (x : ℕ). field (sheet_of a.s.now) contents x content_object) c.entry-c.ensures in
    let raised : (c.if-o-lt-STATE_END.past ≤ state_objects) × Past g (l.i + 1) c.if-o-lt-STATE_END.past =
    elim c.if-o-lt-STATE_END.branch [
      | then-o-lt-STATE_END w ↦ past_raised g l.i l.past l.invariant.1 o c.if-o-lt-STATE_END.past named (w.past-is ∙ w.max-past.ensures) l.invariant.0 w.if-o-lt-STATE_END.true
      | else-o-lt-STATE_END w ↦ past_left g l.i l.past l.invariant.1 o c.if-o-lt-STATE_END.past named w.past-is l.invariant.0 w.if-o-lt-STATE_END.false
    ] in (
      raised.0,
      raised.1,
      m.0 ∙ l.invariant.2,
      items_more (λ x. 1) a.marks.now l.marks c.mark_at.new.table m.0 g l.i c.from.result (c.from.ensures ∙ named) l.invariant.3 m.1,
    )

pub returns : goal.returns
unfolding includes times_by
returns c =
    let l = c.loop-i in let a = c.args in let s = sheet_of a.s.now in
    let g = item s Included a.p in
    let e : l.i ≡ number s programmes a.p content_list = omega (arith, c.number-i-end.ensures) in (
      l.invariant.2,
      l.invariant.0,
      λ o i m. ap (any (λ k. eqb (g k) o)) (sym e) ∙ l.invariant.1 o i m,
      λ z x i. l.invariant.3 x i
          ∙ ap (λ (n : ℕ). repeat (λ x. 1) (how_many (λ j. eqb (g j) x) n) (get_or a.marks.now x 0)) e
          ∙ ap (repeat (λ x. 1) (times_by s Included a.p x)) (z x (rw l.invariant.2 at i))
          ∙ included_marked s a.p x,
    )
