-- `flonum::extremes::larger` meets its contract. Assumes nothing.
use Rattle.flonum.proofs.ExtremesLaws.{better-kept, old-kept}
use Rattle.flonum.specs.Extremes.{above}
use Rattle.flonum.proofs.extremes.larger.Goals as goal

pub returns-then-old-x : goal.returns-then-old-x
unfolding above
returns-then-old-x c = better-kept above c.args.old c.args.x c.if-old-x.true

pub returns-else-old-x : goal.returns-else-old-x
unfolding above
returns-else-old-x c = old-kept above c.args.old c.args.x c.if-old-x.false
