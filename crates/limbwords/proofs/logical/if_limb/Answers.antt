-- `limbwords::logical::if_limb` meets its contract. Assumes nothing.
use Prim.Native.Nat.{◌*◌}
use mathlib.Core.Path.{◌∙◌}
use Rattle.limbwords.specs.Value.{value}
use Rattle.limbwords.proofs.LogicalLaws.{bits_from-if}
use Rattle.limbwords.proofs.logical.if_limb.Goals as goal

pub returns : goal.returns
returns c =
    let a = c.before.before.before.before.before.before.before in
    c.choose.ensures
    ∙ bits_from-if (value a.args.x.now) (value a.args.y.now) (value a.args.z.now) (32 * a.args.j) c.limb.ensures
    c.limb-2.ensures c.limb-3.ensures
