-- `flonum::flround` meets its contract. Assumes nothing.
use Rattle.std.proofs.Common.{ap}
use Rattle.flonum.specs.Rounding.{flround}
use Rattle.flonum.specs.declared.answer.Answer.TheVariants.{Flonum}
use Rattle.flonum.proofs.flround.Goals as goal

pub returns : goal.returns
unfolding flround
returns c = ap Flonum c.rounded.ensures
