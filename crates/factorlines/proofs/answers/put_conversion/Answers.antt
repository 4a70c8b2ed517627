-- By the answer. Assumes nothing.
use mathlib.Core.Path.{◌≡◌, refl}
use mathlib.Core.List.{◌++◌}
use Rattle.std.specs.Prelude.{Err}
use Rattle.factors.specs.declared.FactorRefusal.{FactorRefusal}
use Rattle.factors.specs.declared.FactorRefusal.TheVariants.{FactorTooHigh}
use Rattle.factors.specs.Conversion.{refusal_number}
use Rattle.text.specs.Bytes.{ascii}
use Rattle.text.specs.Decimal.{decimal}
use Rattle.text.proofs.BufferLaws.{appends_more}
use Rattle.factorlines.specs.FactorLines.{conversion_text}
use Rattle.factorlines.proofs.answers.put_conversion.Goals as goal

refused : (r : FactorRefusal) → conversion_text (Err r) ≡ ascii "refused " ++ decimal (refusal_number r)
unfolding conversion_text
refused FactorTooHigh = refl

pub returns-in-Ok : goal.returns-in-Ok
unfolding conversion_text
returns-in-Ok c = rw c.in-Ok.is c.gain.ensures

pub returns-in-Err : goal.returns-in-Err
returns-in-Err c = rw (c.in-Err.is, refused c.in-Err.refusal) (appends_more _ _ _ _ _ c.text.ensures (rw (c.from-in-Err.ensures, c.from.ensures) at c.number.ensures))
