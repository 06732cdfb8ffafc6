-- `limbcount::count::bit_length` meets its contract. Assumes nothing.
use Prim.Native.Nat.{◌+◌, ◌*◌, ◌-◌}
use native.Mathlib.Omega.{arith}
use mathlib.Core.Path.{◌≡◌}
use lib.ListN.{length}
use Rattle.bits.specs.Testbit.{bit_length}
use Rattle.limbwords.specs.Value.{value}
use Rattle.limbwords.proofs.ValueLaws.{value-length}
use Rattle.limbcount.proofs.CountLimbs.{length_last}
use Rattle.limbcount.proofs.count.bit_length.Goals as goal
use Rattle.limbcount.proofs.count.bit_length.Goals.{After-length_of}

settled : (c : After-length_of) → let x = c.args.x.now in
    32 * (length x - 1) + c.length_of.result ≡ bit_length (value x)
settled c =
    length_last _ _ c.padding.ensures c.requires.x_nonzero.0 _ (λ i. (c.type_inv.x i).fits) (omega arith) c.requires.x_len (omega arith)
    c.length_of.ensures

pub overflow_add-result : goal.overflow_add-result
overflow_add-result c =
    omega (arith, settled c, value-length c.args.x.now c.requires.x_nonzero.0)

pub returns : goal.returns
returns c = settled c
