-- `flonum::fltruncate` meets its contract. Assumes nothing.
use Rattle.std.proofs.Common.{ap}
use Rattle.flonum.specs.Rounding.{fltruncate}
use Rattle.flonum.specs.declared.answer.Answer.TheVariants.{Flonum}
use Rattle.flonum.proofs.fltruncate.Goals as goal

pub returns : goal.returns
unfolding fltruncate
returns c = ap Flonum c.rounded.ensures
