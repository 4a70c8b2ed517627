use Rattle.std.proofs.Common.{refl}
use Rattle.languages.specs.steps.Search.{halves}
use Rattle.languages.proofs.search.last_at_most.Goals as goal

pub narrow-requires-clause-halves : goal.narrow-requires-clause-halves
unfolding halves
narrow-requires-clause-halves c = refl
