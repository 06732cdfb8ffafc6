-- `fxbits::fields::fields` meets its contract. Assumes nothing.
use native.Mathlib.Omega.{arith}
use Prim.Native.Nat.{◌<◌}
use Rattle.fxbits.proofs.fields.fields.Goals as goal

-- the last arm's code
pub reversed-requires : goal.reversed-requires
reversed-requires c =
    let l : 36 < c.args.call.code = omega arith in
    omega (arith, c.requires.2 l)
