-- `fltext::form::is_minus` meets its contract. Assumes nothing.
use mathlib.Core.Path.{ap}
use lib.Dec.{eqb}
use Rattle.fltext.specs.Forms.{is_minus}
use Rattle.fltext.proofs.form.is_minus.Goals as goal

pub returns : goal.returns
unfolding is_minus
returns c = ap (λ b. eqb b 45) c.byte_at.ensures
