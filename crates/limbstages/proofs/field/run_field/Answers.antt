-- `limbstages::field::run_field` meets its contract. Assumes nothing.
use native.Mathlib.Omega.{arith}
use Prim.Native.Nat.{◌*◌, ◌-◌}
use Rattle.limbwords.proofs.ValueLaws.{value-length}
use Rattle.limbstages.proofs.StageLaws.{operand_lengths}
use Rattle.limbstages.proofs.field.run_field.Goals as goal

pub run-requires : goal.run-requires
run-requires c =
    let x = operand_lengths _ c.requires.x_value in
    let n = c.enough_for.ensures in
    let last = c.args.field.within in
    let l = value-length c.args.d.now.x.now x.0 in
    let m = c.requires.by_index (32 * c.enough_for.result - 1) (omega arith) (omega arith) in
    record { enough_bounds = (omega arith, omega arith); length_bound = omega arith }
