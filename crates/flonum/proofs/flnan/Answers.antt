-- `flonum::flnan` meets its contract. Assumes nothing.
use Rattle.std.proofs.Common.{ap, ◌∙◌}
use Rattle.flonum.specs.Calls.{truth}
use Rattle.flonum.proofs.flnan.Goals as goal

pub returns : goal.returns
returns c = c.from.ensures ∙ ap truth c.is_nan.ensures.value
