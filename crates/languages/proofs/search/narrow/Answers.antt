use Rattle.std.proofs.Common.{get_or, ◌≡◌, ◌+◌, ◌≤◌, ◌∷◌, refl, cond, arith}
use Rattle.languages.specs.steps.Pairs.{words_of}
use Rattle.languages.specs.steps.Search.{Above}
use Rattle.languages.proofs.SearchLaws.{halves_at, left_next, narrowed, within}
use Rattle.languages.proofs.search.narrow.Goals as goal
use Rattle.languages.proofs.search.narrow.Goals.{Joined-is_at_most, then-is_at_most, else-is_at_most}

-- a step is taken where the word there is at most the one looked for
taken : (c : Joined-is_at_most) → c.if-is_at_most.last ≡ cond c.is_at_most.result (c.loop-step.last + get_or c.args.steps.now c.loop-step.step-index 0) c.loop-step.last
taken c = elim c.if-is_at_most.branch [ then-is_at_most w ↦ rw (w.last-is, w.if-is_at_most.true) refl | else-is_at_most w ↦ rw (w.last-is, w.if-is_at_most.false) refl ]

pub overflow_add-last : goal.overflow_add-last
overflow_add-last c = omega (arith, c.loop-step.invariant.0, halves_at (c.args.left ∷ c.args.steps.now) c.requires.halves c.loop-step.step-index (omega (arith, c.loop-step-test.true)))

pub overflow_add-last-then-is_at_most : goal.overflow_add-last-then-is_at_most
overflow_add-last-then-is_at_most c = omega (arith, c.loop-step.invariant.0, halves_at (c.args.left ∷ c.args.steps.now) c.requires.halves c.loop-step.step-index (omega (arith, c.loop-step-test.true)))

pub loop-step-preserved : goal.loop-step-preserved
loop-step-preserved c =
    let langs = words_of c.args.pairs.now in
    let steps = c.args.steps.now in
    let j = c.loop-step.step-index in
    let step = get_or steps j 0 in
    let halved : get_or (c.args.left ∷ steps) j 0 ≡ step + step = halves_at (c.args.left ∷ steps) c.requires.halves j (omega (arith, c.loop-step-test.true)) in
    let fits : c.loop-step.last + (step + step) ≤ 65536 = rw halved at c.loop-step.invariant.0 in
    rw (left_next c.args.left steps j, taken c) (
      within c.loop-step.last step 65536 c.is_at_most.result fits,
      λ at above.
          let was = c.loop-step.invariant.1 at above in
          let over : Above langs c.args.w (c.loop-step.last + (step + step)) = rw halved at was.1 in
          narrowed langs c.args.w c.loop-step.last step c.is_at_most.result c.is_at_most.ensures was.0 over,
    )
