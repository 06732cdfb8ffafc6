-- `limbwords::logical::logical_limb` meets its contract. Assumes nothing.
use Prim.Native.Nat.{ℕ, ◌*◌}
use mathlib.Core.Path.{ap₂, ◌∙◌}
use lib.IntN.{pos}
use Rattle.bits.specs.Testbit.{testbit}
use Rattle.limbwords.specs.Value.{value}
use Rattle.limbwords.specs.Results.{logic_of}
use Rattle.limbwords.proofs.LogicalLaws.{bits_from-bitwise}
use Rattle.limbwords.proofs.logical.logical_limb.Goals as goal

pub returns : goal.returns
returns c =
    let a = c.before.before.before.before.before in
    bits_from-bitwise (logic_of a.args.by) (value a.args.x.now) (value a.args.y.now) (32 * a.args.j) c.combine.result c.combine.type_inv (λ t k.
    c.combine.ensures t k
    ∙ ap₂ (λ (m n : ℕ). logic_of a.args.by (testbit (pos m) t) (testbit (pos n) t)) c.limb.ensures c.limb-2.ensures)
