-- `limbcount::count::first_bit_set` meets its contract. The invariants: no bit below limb j is 1, and none below bit i of it. Assumes nothing.
use Prim.Native.Nat.{◌*◌}
use native.Mathlib.Omega.{arith}
use mathlib.Core.Path.{◌∙◌}
use mir.Syntax.{w64}
use mir.ValLaws.{to_z_pos}
use Rattle.limbwords.specs.Value.{value}
use Rattle.limbwords.proofs.ValueLaws.{value-length}
use Rattle.limbcount.proofs.CountLimbs.{none-first_bit_set, one_found, none_here}
use Rattle.limbcount.proofs.count.first_bit_set.Goals as goal

pub loop-i-preserved : goal.loop-i-preserved
loop-i-preserved c = none_here _ _ _ (omega arith) (omega arith) c.loop-i.invariant c.if-x-j-eq1.false

pub returns-then-j-x : goal.returns-then-j-x
returns-then-j-x c =
    let xs = c.args.x.now in
    let l = c.limbs in
    none-first_bit_set (value xs) (32 * l.j) (omega (arith, value-length xs c.requires.0, c.if-j-x.true)) l.invariant.0

pub returns-then-x-j-eq1 : goal.returns-then-x-j-eq1
returns-then-x-j-eq1 c =
    to_z_pos w64 _ (omega arith) ∙ one_found _ _ _ (omega arith) (omega arith) c.loop-i.invariant c.if-x-j-eq1.true
