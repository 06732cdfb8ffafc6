-- `flonum::ieee::is_finite` meets its contract. Assumes nothing.
use Rattle.std.proofs.Common.{◌∙◌}
use Rattle.flonum.proofs.NanLaws.{finite-library}
use Rattle.flonum.proofs.ieee.is_finite.Goals as goal

pub returns : goal.returns
returns c = c.is_finite.ensures.value ∙ finite-library c.args.x
