-- `limbs::bitwise_rotate` meets its contract. Assumes nothing.
use native.Mathlib.Omega.{arith}
use Prim.Native.Nat.{ℕ}
use mathlib.Core.Path.{ap, ap₂, ◌∙◌}
use lib.IntN.{ℤ}
use Rattle.bits.specs.Field.{rotate_bit_field}
use Rattle.bits.proofs.LengthBounds.{rotate_bit_field-length}
use Rattle.bits.proofs.RotationCounts.{reduced-le, rotate-reduced}
use Rattle.outcomes.specs.Outcome.{done}
use Rattle.limbwords.specs.Value.{value}
use Rattle.limbwords.specs.Results.{meaning, Proper}
use Rattle.limbs.specs.Operations.{rotate_outcome}
use Rattle.limbstages.proofs.StageLaws.{operand-length}
use Rattle.limbs.proofs.CheckLaws.{LegalField, rotation-refused, rotation-legal}
use Rattle.limbstages.proofs.WritesLaws.{writes_as, writes-exited}
use Rattle.limbs.proofs.bitwise_rotate.Goals as goal
use Rattle.limbs.proofs.bitwise_rotate.Goals.{In_ok-field}

legal-field : (c : In_ok-field) → LegalField c.args.x.now c.args.x.now c.args.start c.args.end c.in_ok-field.field-0.field.start c.in_ok-field.field-0.field.end
legal-field c =
    (rotation-legal c.args.x.now c.ranges.start c.ranges.end c.ranges.count c.check_rotation.ensures c.in_ok-field.was).0

pub invariant_of-d : goal.invariant_of-d
unfolding Proper
invariant_of-d c =
    let l = legal-field (goal.at.invariant_of-d c).In_ok-field in
    let last = l.last in
    let x = operand-length _ l.first in
    record { proper = ∣ ((l.order, omega arith), reduced-le _ _ c.reduced-by.ensures) ∣₁; x_nonzero = x; y_nonzero = x; z_nonzero = x }

pub run_field-requires : goal.run_field-requires
unfolding meaning
run_field-requires c =
    record { x_value = (legal-field (goal.at.run_field-requires c).In_ok-field).first; by_index = rotate_bit_field-length _ _ _ _ }

pub returns : goal.returns
unfolding rotate_outcome meaning
returns c =
    let x = value c.args.x.now in
    let s = c.in_ok-field.field-0.field.start in
    let e = c.in_ok-field.field-0.field.end in
    let l = rotation-legal c.args.x.now c.ranges.start c.ranges.end c.ranges.count c.check_rotation.ensures c.in_ok-field.was in
    writes_as
    (l.1.1 _
    ∙ ap₂ (λ (s e : ℕ). done (rotate_bit_field x s e c.args.count)) l.0.from l.0.to
    ∙ ap (λ (k : ℤ). done (rotate_bit_field x s e k)) l.1.0
    ∙ ap done (rotate-reduced x s e _ c.reduced-by.ensures))
    c.run_field.ensures

pub returns-in_err-field : goal.returns-in_err-field
unfolding rotate_outcome
returns-in_err-field c =
    writes-exited _ _ (rotation-refused _ c.ranges.start c.ranges.end c.ranges.count c.check_rotation.ensures _ c.in_err-field.was) c.from_residual.ensures.1
