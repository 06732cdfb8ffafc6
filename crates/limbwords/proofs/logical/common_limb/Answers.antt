-- `limbwords::logical::common_limb` meets its contract. Assumes nothing.
use Rattle.limbwords.specs.Results.{logic_of}
use Rattle.limbwords.proofs.LogicalLaws.{limb-bitwise}
use Rattle.limbwords.proofs.logical.common_limb.Goals as goal

pub returns : goal.returns
returns c =
    let a = c.before.before.before.before.before in
    limb-bitwise (logic_of a.args.by) a.args.x.now a.args.y.now a.args.j (λ i. (c.type_inv.x i).fits)
    (λ i. (c.type_inv.y i).fits) a.requires.0 a.requires.1 c.combine.type_inv c.combine.ensures
