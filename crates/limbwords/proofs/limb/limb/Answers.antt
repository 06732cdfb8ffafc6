-- `limbwords::limb::limb` meets its contract. Assumes nothing.
use Prim.Native.Nat.{◌*◌}
use native.Mathlib.Omega.{arith}
use mathlib.Core.Path.{sym, ◌∙◌}
use lib.ListN.{length}
use Rattle.limbwords.specs.Value.{value}
use Rattle.limbwords.proofs.ValueLaws.{value-length}
use Rattle.limbwords.proofs.LimbLaws.{limb-value, bits_from-above}
use Rattle.limbwords.proofs.limb.limb.Goals as goal

pub returns-then-j-x : goal.returns-then-j-x
returns-then-j-x c = limb-value _ _ (λ i. (c.type_inv.x i).fits) c.if-j-x.true

pub returns-else-j-x : goal.returns-else-j-x
returns-else-j-x c =
    let a = c.before.before.before in
    let xs = a.args.x.now in
    let l = value-length xs a.requires in
    c.padding.ensures
    ∙ bits_from-above (value xs) (32 * length xs) (omega arith)
    ∙ sym (bits_from-above (value xs) (32 * a.args.j) (omega (arith, c.if-j-x.false)))
