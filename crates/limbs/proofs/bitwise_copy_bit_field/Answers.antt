-- `limbs::bitwise_copy_bit_field` meets its contract. Assumes nothing.
use native.Mathlib.Omega.{arith}
use Prim.Native.Nat.{ℕ}
use mathlib.Core.Path.{ap₂, ◌∙◌}
use Rattle.bits.specs.Field.{copy_bit_field}
use Rattle.bits.proofs.LengthBounds.{copy_bit_field-length}
use Rattle.outcomes.specs.Outcome.{done}
use Rattle.limbwords.specs.Value.{value}
use Rattle.limbwords.specs.Results.{meaning, Proper}
use Rattle.limbs.specs.Operations.{copy_bit_field_outcome}
use Rattle.limbstages.proofs.StageLaws.{operand-length}
use Rattle.limbs.proofs.CheckLaws.{field-refused, field-legal}
use Rattle.limbstages.proofs.WritesLaws.{writes_as, writes-exited}
use Rattle.limbs.proofs.bitwise_copy_bit_field.Goals as goal

pub invariant_of-d : goal.invariant_of-d
unfolding Proper
invariant_of-d c =
    let l = (field-legal c.args.x.now c.args.y.now c.ranges.start c.ranges.end c.check_field.ensures c.in_ok-field.was).0 in
    let x = operand-length _ l.first in
    record { proper = ∣ (l.order, omega (arith, l.last)) ∣₁; x_nonzero = x; y_nonzero = operand-length _ l.second; z_nonzero = x }

pub run_field-requires : goal.run_field-requires
unfolding meaning
run_field-requires c =
    let l = (field-legal c.args.x.now c.args.y.now c.ranges.start c.ranges.end c.check_field.ensures c.in_ok-field.was).0 in
    record { x_value = l.first; by_index = copy_bit_field-length _ _ _ _ }

pub returns : goal.returns
unfolding copy_bit_field_outcome meaning
returns c =
    let l = field-legal c.args.x.now c.args.y.now c.ranges.start c.ranges.end c.check_field.ensures c.in_ok-field.was in
    writes_as (l.1 _ ∙ ap₂ (λ (s e : ℕ). done (copy_bit_field (value c.args.x.now) s e (value c.args.y.now))) l.0.from l.0.to) c.run_field.ensures

pub returns-in_err-field : goal.returns-in_err-field
unfolding copy_bit_field_outcome
returns-in_err-field c =
    writes-exited _ _ (field-refused _ _ c.ranges.start c.ranges.end c.check_field.ensures _ c.in_err-field.was) c.from_residual.ensures.1
