-- `flonum::flceiling` meets its contract. Assumes nothing.
use Rattle.std.proofs.Common.{ap}
use Rattle.flonum.specs.Rounding.{flceiling}
use Rattle.flonum.specs.declared.answer.Answer.TheVariants.{Flonum}
use Rattle.flonum.proofs.flceiling.Goals as goal

pub returns : goal.returns
unfolding flceiling
returns c = ap Flonum c.rounded.ensures
