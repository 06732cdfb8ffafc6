-- `limbs::bitwise_copy_bit` meets its contract. Assumes nothing.
use native.Mathlib.Omega.{arith}
use Prim.Native.Nat.{ℕ}
use native.Mathlib.Numerals.{add-one}
use mathlib.Core.Path.{sym, ap₂, ◌∙◌}
use lib.IntN.{ℤ}
use Rattle.bits.specs.Field.{copy_bit, copy_bit_field}
use Rattle.bits.proofs.LengthBounds.{copy_bit_field-length}
use Rattle.outcomes.specs.Outcome.{done}
use Rattle.limbwords.specs.Value.{value}
use Rattle.limbwords.specs.Results.{meaning, Proper}
use Rattle.limbwords.proofs.ValueLaws.{value-small}
use Rattle.limbstages.proofs.StageLaws.{limb-operand, operand-length}
use Rattle.limbs.specs.Operations.{copy_bit_outcome}
use Rattle.limbs.proofs.CheckLaws.{LegalBit, new-bit-refused, new-bit-legal}
use Rattle.limbstages.proofs.WritesLaws.{writes_as, writes-exited}
use Rattle.limbs.proofs.bitwise_copy_bit.Goals as goal
use Rattle.limbs.proofs.bitwise_copy_bit.Goals.{In_ok-position}

legal-bit : (c : In_ok-position) → LegalBit c.args.x.now c.args.position c.args.bit c.in_ok-position.field-0.position c.in_ok-position.field-0.bit
legal-bit c = (new-bit-legal c.args.x.now c.ranges.position c.ranges.bit c.check_new_bit.ensures c.in_ok-position.was).0

pub invariant_of-d : goal.invariant_of-d
unfolding Proper
invariant_of-d c =
    let l = legal-bit (goal.at.invariant_of-d c).In_ok-position in
    let last = l.last in
    let x = operand-length _ l.first in
    record { proper = ∣ (omega arith, omega arith) ∣₁; x_nonzero = x; y_nonzero = operand-length _ (limb-operand c.in_ok-position.field-0.bit); z_nonzero = x }

pub run_field-requires : goal.run_field-requires
unfolding meaning
run_field-requires c =
    record { x_value = (legal-bit (goal.at.run_field-requires c).In_ok-position).first; by_index = copy_bit_field-length _ _ _ _ }

pub returns : goal.returns
unfolding copy_bit_outcome copy_bit meaning
returns c =
    let x = value c.args.x.now in
    let at = c.in_ok-position.field-0.position in
    let bit = c.in_ok-position.field-0.bit in
    let l = legal-bit (goal.at.returns c).In_ok-position in
    writes_as
    ((new-bit-legal c.args.x.now c.ranges.position c.ranges.bit c.check_new_bit.ensures c.in_ok-position.was).1 _
    ∙ ap₂ (λ (n : ℕ) (z : ℤ). done (copy_bit x n z)) l.at l.new
    ∙ ap₂ (λ (e : ℕ) (z : ℤ). done (copy_bit_field x at e z)) (sym (add-one at)) (sym (value-small bit (omega (arith, l.small)))))
    c.run_field.ensures

pub returns-in_err-position : goal.returns-in_err-position
unfolding copy_bit_outcome
returns-in_err-position c =
    writes-exited _ _ (new-bit-refused _ c.ranges.position c.ranges.bit c.check_new_bit.ensures _ c.in_err-position.was) c.from_residual.ensures.1
