-- `limbmeasure::measure_by` meets its contract, turn by turn. Assumes nothing.
use Prim.Native.Nat.{ℕ, ◌*◌, ◌≤◌, ◌<◌}
use mathlib.Core.Path.{◌≡◌}
use lib.IntN.{ℤ}
use Rattle.bits.specs.Testbit.{bit_length}
use Rattle.limbwords.specs.Results.{limb_at}
use Rattle.limbmeasure.proofs.MeasureLaws.{Enough}
use Rattle.limbmeasure.proofs.measure_by.Given as goal

-- whose limbs they are does not matter to the bounds
abbrev pub invariant-loop-n : goal.invariant-loop-n
invariant-loop-n g l =
    ((0 < l.n) × (l.n ≤ l.enough))
    × ((z : ℤ) → ((j v : ℕ) → j < l.enough → goal.F-post g l.limb j v → v ≡ limb_at z j) → bit_length z < 32 * l.enough
    → Enough z l.enough l.n l.high)

abbrev pub decreases-loop-n : goal.decreases-loop-n
decreases-loop-n g l = l.n
