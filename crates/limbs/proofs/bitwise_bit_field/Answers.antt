-- `limbs::bitwise_bit_field` meets its contract. Assumes nothing.
use native.Mathlib.Omega.{arith}
use Prim.Native.Nat.{ℕ}
use mathlib.Core.Path.{sym, ap₂, ◌∙◌}
use Rattle.bits.specs.Field.{bit_field}
use Rattle.bits.proofs.LengthBounds.{bit_field-length}
use Rattle.outcomes.specs.Outcome.{done}
use Rattle.limbwords.specs.Value.{value}
use Rattle.limbwords.specs.Results.{meaning, Proper}
use Rattle.limbs.specs.Operations.{bit_field_outcome}
use Rattle.limbstages.proofs.StageLaws.{operand-twice, operand-length}
use Rattle.limbs.proofs.CheckLaws.{LegalField, field-refused, field-legal}
use Rattle.limbstages.proofs.WritesLaws.{writes_as, writes-exited}
use Rattle.limbs.proofs.bitwise_bit_field.Goals as goal
use Rattle.limbs.proofs.bitwise_bit_field.Goals.{In_ok-start}

legal-field : (c : In_ok-start) → LegalField c.args.x.now c.args.x.now c.args.start c.args.end c.in_ok-start.field-0.start c.in_ok-start.field-0.end
legal-field c =
    (field-legal c.args.x.now c.args.x.now c.ranges.start c.ranges.end c.check_field.ensures c.in_ok-start.was).0

pub invariant_of-d : goal.invariant_of-d
unfolding Proper
invariant_of-d c =
    let l = legal-field (goal.at.invariant_of-d c).In_ok-start in
    let last = l.last in
    let x = operand-length _ l.first in
    record { proper = ∣ (l.order, omega arith) ∣₁; x_nonzero = x; y_nonzero = x; z_nonzero = x }

pub run-requires : goal.run-requires
unfolding meaning
run-requires c =
    let last = (legal-field (goal.at.run-requires c).In_ok-start).last in
    record {
      enough_bounds = (omega arith, omega arith);
      length_bound = omega (arith, bit_field-length (value c.args.x.now) c.in_ok-start.field-0.start c.in_ok-start.field-0.end);
    }

pub returns : goal.returns
unfolding bit_field_outcome meaning
returns c =
    let l = field-legal c.args.x.now c.args.x.now c.ranges.start c.ranges.end c.check_field.ensures c.in_ok-start.was in
    writes_as (sym (operand-twice _ _) ∙ l.1 _ ∙ ap₂ (λ (s e : ℕ). done (bit_field (value c.args.x.now) s e)) l.0.from l.0.to) c.run.ensures

pub returns-in_err-start : goal.returns-in_err-start
unfolding bit_field_outcome
returns-in_err-start c =
    writes-exited _ _ (sym (operand-twice _ _) ∙ field-refused _ _ c.ranges.start c.ranges.end c.check_field.ensures _ c.in_err-start.was) c.from_residual.ensures.1
