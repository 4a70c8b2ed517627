use Prim.Native.Nat.{suc, ◌+◌, ◌-◌}
use mathlib.Core.Path.{◌≡◌, refl, sym, ap, ap₂, ◌∙◌}
use mathlib.Core.Bool.{Bool, ◌&&◌, ◌||◌}
use native.Mathlib.Omega.{arith}
use native.Mathlib.Numerals.{add-one}
use borrow.Author.Tests.{le-ltb}
use lib.Dec.{ltb}
use Rattle.sheet.specs.Words.{sheet_of}
use Rattle.sheet.specs.Layout.{count}
use Rattle.sheet.specs.Fields.{programmes}
use Rattle.profile.specs.Counting.{every}
use Rattle.std.proofs.Math.Bool.{and_assoc}
use Rattle.tables.proofs.MarkLaws.{nought}
use Rattle.listener.specs.State.{state_objects, setting, is_resting}
use Rattle.listener.specs.Sound.{sound, sound_at}
use Rattle.listener.specs.steps.Settings.{resting_from}
use Rattle.listener.proofs.StepLaws.{and_swap, part_setting}
use Rattle.listener.proofs.RestLaws.{from_none, sound_parts}
use Rattle.listener.proofs.sounding.sound.Goals as goal

pub returns-then-count-p : goal.returns-then-count-p
unfolding sound
returns-then-count-p c = rw (le-ltb c.args.state.now.programme (count (sheet_of c.args.s.now) programmes) (rw (← c.count.ensures) c.if-count-p.true)) refl

pub loop-o-init : goal.loop-o-init
unfolding every
loop-o-init c = refl

pub sound_at-good-requires : goal.sound_at-good-requires
sound_at-good-requires c = omega (arith, c.loop-o-test.true, c.enter_tables-n.ensures.within)

pub loop-o-preserved : goal.loop-o-preserved
unfolding every
loop-o-preserved c =
    rw (add-one, c.loop-o.invariant, c.sound_at-good.ensures (c.enter_tables-n.ensures.tabled (λ x l. nought state_objects x) (λ x l. nought state_objects x)) c.enter_tables-n.ensures.programme) refl

pub loop-x-init : goal.loop-x-init
loop-x-init c = let n = c.enter_tables-n.result.1 in let z : n + 0 ≡ n = omega arith in rw z (from_none _ _ _)

pub loop-x-preserved : goal.loop-x-preserved
unfolding every
loop-x-preserved c =
    let l = c.loop-x in let n = c.enter_tables-n.result.1 in let st = c.args.state.now in
    let i = n + l.x-index in
    let e : n + (l.x-index + 1) ≡ suc i = omega arith in
    let x = c.is_resting-good.ensures ∙ ap is_resting (part_setting st c.from.result (84 - c.from.result) l.x-index (omega (arith, c.from.ensures, c.enter_tables-n.ensures.within)) (omega arith)) in
    rw (e, l.invariant, x, c.from.ensures, le-ltb i n (omega arith))
    (and_assoc c.loop-o.good (every (λ q. ltb q n || is_resting (setting st q)) i) (is_resting (setting st i)))

pub returns : goal.returns
unfolding resting_from
returns c =
    let l = c.loop-o in let l2 = c.loop-x in let n = c.enter_tables-n.result.1 in let a = c.args in let s = sheet_of a.s.now in
    let e : n + l2.x-index ≡ state_objects = omega (arith, c.from.ensures, c.enter_tables-n.ensures.within) in
    let g : l.o ≡ n = omega arith in
    let good = every (sound_at s a.state.now) in
    l2.invariant
    ∙ ap₂ (λ (a b : Bool). a && b) (l.invariant ∙ ap good g) (ap (every (λ q. ltb q n || is_resting (setting a.state.now q))) e)
    ∙ and_swap (good n) (resting_from a.state.now n)
    ∙ sym (sound_parts s a.state.now n c.enter_tables-n.ensures.within c.enter_tables-n.ensures.none_past (rw (← c.count.ensures) c.if-count-p.false))
