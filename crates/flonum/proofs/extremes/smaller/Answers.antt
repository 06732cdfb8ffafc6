-- `flonum::extremes::smaller` meets its contract. Assumes nothing.
use Rattle.flonum.proofs.ExtremesLaws.{better-kept, old-kept}
use lib.Ieee.{lt}
use Rattle.flonum.specs.Extremes.{above}
use Rattle.flonum.proofs.extremes.smaller.Goals as goal

pub returns-then-x-old : goal.returns-then-x-old
unfolding above
returns-then-x-old c = better-kept lt c.args.old c.args.x c.if-x-old.true

pub returns-else-x-old : goal.returns-else-x-old
unfolding above
returns-else-x-old c = old-kept lt c.args.old c.args.x c.if-x-old.false
