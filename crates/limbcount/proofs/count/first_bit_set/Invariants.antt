-- `limbcount::count::first_bit_set` meets its contract. The invariants: no bit below limb j is 1, and none below bit i of it. Assumes nothing.
use Prim.Native.Nat.{◌+◌, ◌*◌, ◌-◌, ◌≤◌}
use lib.ListN.{length}
use Rattle.limbwords.specs.Value.{value}
use Rattle.limbcount.proofs.CountLimbs.{NoneBelow}
use Rattle.limbcount.proofs.count.first_bit_set.Given as goal

abbrev pub invariant-loop-i : goal.invariant-loop-i
invariant-loop-i l = NoneBelow (value l.x) (32 * l.j + l.i)

abbrev pub invariant-limbs : goal.invariant-limbs
invariant-limbs l = NoneBelow (value l.x) (32 * l.j) × (l.j ≤ length l.x)

abbrev pub decreases-limbs : goal.decreases-limbs
decreases-limbs l = length l.x - l.j
