-- `fldecimal::shortest::try_near` meets its contract. Assumes nothing.
use Rattle.std.proofs.Common.{arith}
use native.Mathlib.Nat.{one-le-pow}
use Rattle.fldecimal.proofs.shortest.try_near.Goals as goal

pub nonzero_div-lower : goal.nonzero_div-lower
nonzero_div-lower c = omega (arith, c.pow-power.ensures, one-le-pow c.args.dropped 10)

pub nonzero_rem-d : goal.nonzero_rem-d
nonzero_rem-d c = omega (arith, c.pow-power.ensures, one-le-pow c.args.dropped 10)
