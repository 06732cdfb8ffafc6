-- `limbmeasure::measure` meets its contract. Assumes nothing.
use native.Mathlib.Omega.{arith}
use Rattle.limbmeasure.proofs.MeasureLaws.{one-limb}
use Rattle.limbmeasure.proofs.measure.Goals as goal

pub returns-then-enough-eq1 : goal.returns-then-enough-eq1
returns-then-enough-eq1 c = one-limb _ (omega arith)
