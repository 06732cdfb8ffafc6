-- `limbstages::check::is_operand` meets its contract. Assumes nothing.
use mathlib.Core.Path.{sym, ◌∙◌}
use Rattle.limbstages.proofs.StageLaws.{limbs-lengths}
use Rattle.limbstages.proofs.check.is_operand.Goals as goal

-- where the length is legal
pub is_shortest-requires : goal.is_shortest-requires
is_shortest-requires c = (limbs-lengths _ (sym c.has_limbs.ensures ∙ c.if-has_limbs.true)).0
