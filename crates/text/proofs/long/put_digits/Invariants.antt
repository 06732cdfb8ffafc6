-- `text::long::put_digits` meets its contract, limb by limb. Assumes nothing.
use Prim.Native.Nat.{◌*◌, ◌-◌}
use lib.ListN.{length}
use Rattle.text.proofs.NumeralLimbs.{Filled}
use Rattle.text.proofs.long.put_digits.Given as goal

abbrev pub invariant-loop-j : goal.invariant-loop-j
invariant-loop-j l = Filled l.digits l.initial.out l.out (length l.digits - 8 * l.j) l.j
