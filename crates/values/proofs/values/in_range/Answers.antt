-- The function `in_range` is the definition `in_range`. Assumes nothing.
use Rattle.std.proofs.Common.{◌∙◌}
use Rattle.values.proofs.GainOrder.{by_numbers}
use Rattle.values.proofs.Signs.{kept}
use Rattle.values.proofs.values.in_range.Goals as goal

pub returns : goal.returns
returns c =
    let f = c.ranges in let a = c.args in
    c.offset_in_range.ensures ∙ rw (c.signed.ensures, c.signed-2.ensures, c.signed-3.ensures, kept _ f.lo.fits, kept _ f.w.fits, kept _ f.hi.fits) (by_numbers a.sort a.lo a.w a.hi f.lo.fits f.w.fits f.hi.fits)
