-- `limbs::bitwise_if` meets its contract. Assumes nothing.
use native.Mathlib.Omega.{arith}
use mathlib.Core.Path.{◌∙◌}
use Rattle.outcomes.specs.Outcome.{done}
use Rattle.limbwords.specs.Results.{meaning, Proper}
use Rattle.limbs.specs.Operations.{if_outcome}
use Rattle.limbs.proofs.LengthLaws.{if-enough}
use Rattle.limbstages.proofs.StageLaws.{operand_lengths, operand-length, operand-ok, operand-err, operands-ok, operands-err}
use Rattle.limbstages.proofs.WritesLaws.{writes_as, writes-exited}
use Rattle.limbs.proofs.bitwise_if.Goals as goal

pub returns-in_err-check_operands : goal.returns-in_err-check_operands
unfolding if_outcome
returns-in_err-check_operands c = writes-exited _ _ (operands-err _ _ _ _ c.in_err-check_operands.ensures) c.from_residual.ensures.1

pub returns-in_err-check_operand : goal.returns-in_err-check_operand
unfolding if_outcome
returns-in_err-check_operand c =
    writes-exited _ _
    ((operands-ok _ _ _ _ c.in_ok-check_operands.ensures).1 ∙ operand-err _ _ _ c.in_err-check_operand.ensures)
    c.from_residual-in_err-check_operand.ensures.1

pub invariant_of-d : goal.invariant_of-d
unfolding Proper
invariant_of-d c =
    let l = (operands-ok _ _ (done (tt {0})) _ c.in_ok-check_operands.ensures).0 in
    let z = operand-length _ (operand-ok _ (done (tt {0})) _ c.in_ok-check_operand.ensures).0 in
    record { proper = ∣ tt ∣₁; x_nonzero = operand-length _ l.0; y_nonzero = operand-length _ l.1; z_nonzero = z }

pub run-requires : goal.run-requires
unfolding meaning
run-requires c =
    let l = (operands-ok _ _ (done (tt {0})) _ c.in_ok-check_operands.ensures).0 in
    let x = operand_lengths _ l.0 in
    let y = operand_lengths _ l.1 in
    let z = operand_lengths _ (operand-ok _ (done (tt {0})) _ c.in_ok-check_operand.ensures).0 in
    let m = c.max.ensures in
    let n = c.max-enough.ensures in
    record { enough_bounds = (omega arith, omega arith); length_bound = if-enough _ _ _ _ x.0 y.0 z.0 (omega arith) (omega arith) (omega arith) }

pub returns : goal.returns
unfolding if_outcome meaning
returns c =
    writes_as ((operands-ok _ _ _ _ c.in_ok-check_operands.ensures).1 ∙ (operand-ok _ _ _ c.in_ok-check_operand.ensures).1) c.run.ensures
