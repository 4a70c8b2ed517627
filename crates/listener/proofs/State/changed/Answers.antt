-- The setting is changed where the call is done and the state has the object. Assumes nothing.
use mathlib.Core.Path.{refl, sym, ap, ◌∙◌}
use Rattle.listener.specs.declared.Setting.{Setting}
use Rattle.listener.specs.Calls.{with_setting}
use Rattle.listener.proofs.AnswerLaws.{reply_when, stored, unstored}
use Rattle.listener.proofs.StepLaws.{element_setting}
use Rattle.listener.proofs.State.changed.Goals as goal
use Rattle.listener.proofs.State.changed.Goals.{then-done+then-i-lt-STATE_OBJECTS, else-done, else-done-via-then-done+else-i-lt-STATE_OBJECTS, else-done-via-else-done}

pub returns : goal.returns
returns g c = λ f h. reply_when c.args.answer c.args.answer c.args.self _ c.if-done.self refl
    (elim c.if-done.branch [
      | then-done+then-i-lt-STATE_OBJECTS w ↦
          let d = sym c.is_ok-done.ensures.value ∙ w.if-done.true in
          let i = rw c.from-i.ensures at w.if-i-lt-STATE_OBJECTS.true in
          let x = h _ _ (rw c.from-i.ensures at w.change.ensures) ∙ ap f (element_setting c.args.self c.args.o i) in
          rw d (rw c.from-i.ensures at w.self-is ∙ stored c.args.self c.args.o w.change.result i ∙ ap (λ (y : Setting). with_setting c.args.self c.args.o y) x)
      | else-done w ↦ elim w.else-done.branch [
        | else-done-via-then-done+else-i-lt-STATE_OBJECTS v ↦ let d = sym c.is_ok-done.ensures.value ∙ v.if-done.true in rw d (w.self-is ∙ unstored _ _ _ (rw c.from-i.ensures at v.if-i-lt-STATE_OBJECTS.false))
        | else-done-via-else-done v ↦ let d = sym c.is_ok-done.ensures.value ∙ v.if-done.false in rw d w.self-is
      ]
    ])
