-- `flonum::flfloor` meets its contract. Assumes nothing.
use Rattle.std.proofs.Common.{ap}
use Rattle.flonum.specs.Rounding.{flfloor}
use Rattle.flonum.specs.declared.answer.Answer.TheVariants.{Flonum}
use Rattle.flonum.proofs.flfloor.Goals as goal

pub returns : goal.returns
unfolding flfloor
returns c = ap Flonum c.rounded.ensures
