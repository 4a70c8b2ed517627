use Rattle.std.proofs.Common.{rules, ℕ, ◌+◌, not, ap, ◌∙◌, arith}
use Rattle.std.specs.Prelude.{is_some}
use Rattle.inclusion.specs.steps.Alike.{owners_of, alike_of}
use Rattle.sheet.specs.Words.{sheet_of}
use Rattle.tables.specs.declared.Naming.TheVariants.{Complements}
use Rattle.tables.specs.steps.Marks.{first_by}
use Rattle.tables.specs.steps.Right.{Leaders}
use Rattle.grouping.proofs.KeptLaws.{repeated_kept}
use Rattle.grouping.proofs.LeaderLaws.{led_more, led_ready, ready_later}
use Rattle.grouping.proofs.programmes.leaders_from.Goals as goal

pub loop-p-preserved-then-repeats_before : goal.loop-p-preserved-then-repeats_before
loop-p-preserved-then-repeats_before c = λ pass apart full full₂ before.
    let s = sheet_of c.args.s.now in let here = c.loop-p in let so = here.invariant pass apart full full₂ before in
    (ready_later s here.p here.included here.groups so.0, repeated_kept s (is_some c.args.sets) c.args.from here.p (c.repeats_before.ensures c.if-repeats_before.true) so.1)

pub loop-p-preserved : goal.loop-p-preserved
loop-p-preserved c = λ pass apart full full₂ before.
    let a = c.args in let s = sheet_of a.s.now in let both = is_some a.sets in let owners = owners_of a.sets in let alike = alike_of a.sets in
    let here = c.loop-p in let named = c.first_namers in let enter = c.enter in let asked = c.groups_asked in let at = c.section_offsets-sections.ensures in
    let led : Leaders s named.new.table = λ x l. named.ensures.1 x l ∙ ap (first_by s Complements x) (c.clear.ensures.1 x (rw named.ensures.0 at l)) in
    let cleared = c.mark_objects.ensures (λ (k : ℕ). 0) (λ i r b q. search rules) in
    let so = here.invariant pass apart full full₂ before in
    let entered = enter.ensures.1 (c.is_none.ensures ∙ ap not c.if-is_none.false) at pass.0 in
    let groups = asked.ensures.1 (c.is_none-in-loop-p.ensures ∙ ap not c.if-is_none-2.false) at led in (
      led_ready s both owners alike here.p here.included enter.new.included here.groups asked.new.groups pass entered so.0 groups asked.ensures.0 (here.p + 1) c.mark_objects.new.table (omega arith) enter.ensures.0 cleared.0 cleared.1,
      led_more s both owners alike here.p here.included enter.new.included here.groups asked.new.groups pass entered so.0 groups asked.ensures.0 apart so.1,
    )
