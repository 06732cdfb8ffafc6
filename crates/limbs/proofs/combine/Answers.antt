-- `limbs::combine` meets its contract. Assumes nothing.
use native.Mathlib.Omega.{arith}
use Rattle.outcomes.specs.Outcome.{done}
use Rattle.limbwords.specs.Results.{logic_of, meaning, Proper}
use Rattle.limbs.specs.Operations.{bitwise_outcome}
use Rattle.limbs.proofs.LengthLaws.{bitwise-enough}
use Rattle.limbstages.proofs.StageLaws.{operand_lengths, operand-length, operands-ok, operands-err}
use Rattle.limbstages.proofs.WritesLaws.{writes_as, writes-exited}
use Rattle.limbs.proofs.combine.Goals as goal

pub returns-in_err-check_operands : goal.returns-in_err-check_operands
unfolding bitwise_outcome
returns-in_err-check_operands c = writes-exited _ _ (operands-err _ _ _ _ c.in_err-check_operands.ensures) c.from_residual.ensures.1

pub invariant_of-d : goal.invariant_of-d
unfolding Proper
invariant_of-d c =
    let l = (operands-ok _ _ (done (tt {0})) _ c.in_ok-check_operands.ensures).0 in
    let x = operand-length _ l.0 in
    record { proper = ∣ tt ∣₁; x_nonzero = x; y_nonzero = operand-length _ l.1; z_nonzero = x }

pub run-requires : goal.run-requires
unfolding meaning
run-requires c =
    let l = (operands-ok _ _ (done (tt {0})) _ c.in_ok-check_operands.ensures).0 in
    let x = operand_lengths _ l.0 in
    let y = operand_lengths _ l.1 in
    let m = c.max-enough.ensures in
    record { enough_bounds = (omega arith, omega arith); length_bound = bitwise-enough (logic_of c.args.by) _ _ _ x.0 y.0 (omega arith) (omega arith) }

pub returns : goal.returns
unfolding bitwise_outcome meaning
returns c = writes_as (operands-ok _ _ _ _ c.in_ok-check_operands.ensures).1 c.run.ensures
