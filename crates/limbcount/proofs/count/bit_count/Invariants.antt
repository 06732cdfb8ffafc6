-- `limbcount::count::bit_count` meets its contract. The invariant: n is the ones of the first j limbs of the magnitude. Assumes nothing.
use Prim.Native.Nat.{◌-◌, ◌≤◌}
use mathlib.Core.Path.{◌≡◌}
use lib.ListN.{length}
use Rattle.limbcount.proofs.CountLimbs.{ones_of}
use Rattle.limbcount.proofs.count.bit_count.Given as goal

abbrev pub invariant-loop-j : goal.invariant-loop-j
invariant-loop-j l = (l.n ≡ ones_of l.x l.j) × (l.j ≤ length l.x)

abbrev pub decreases-loop-j : goal.decreases-loop-j
decreases-loop-j l = length l.x - l.j
