-- `limbwords::splice::splice` meets its contract. Assumes nothing.
use Prim.Native.Nat.{◌+◌, ◌*◌, ◌/◌, ◌%◌, ◌^◌, ◌<◌}
use native.Mathlib.Omega.{arith}
use Rattle.limbwords.proofs.SpliceLaws.{splice-lt, testbit-splice}
use Rattle.limbwords.proofs.splice.splice.Goals as goal
use Rattle.limbwords.proofs.splice.splice.Goals.{After-from-2}

-- the result is a word
fits : (c : After-from-2) → let u = c.power-unit.result in c.from.result / u * u + c.from-2.result % u < 2 ^ 32
fits c = rw (c.power-unit.ensures, c.from.ensures, c.from-2.ensures) (splice-lt c.args.low c.args.high c.args.k c.requires c.ranges.high.fits)

pub overflow_cast-result : goal.overflow_cast-result
overflow_cast-result c = omega (arith, fits c)

pub returns : goal.returns
returns c t h = rw (c.power-unit.ensures, c.from.ensures, c.from-2.ensures) (testbit-splice c.args.low c.args.high c.args.k t)
