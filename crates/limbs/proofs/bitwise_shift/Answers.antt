-- `limbs::bitwise_shift` meets its contract. Assumes nothing.
use Prim.Native.Nat.{ℕ}
use mathlib.Core.Path.{sym, ap, ◌∙◌}
use mathlib.Core.Bool.{not}
use lib.IntN.{nat_abs}
use Rattle.bits.specs.Shift as shift
use Rattle.words.proofs.WordLaws.{back, position-tested, natural-pos}
use Rattle.outcomes.specs.Outcome.{done}
use Rattle.limbwords.specs.Value.{value}
use Rattle.limbs.specs.Operations.{shift_outcome}
use Rattle.limbstages.proofs.StageLaws.{operand-ok, operand-err}
use Rattle.limbs.proofs.SignedLaws.{shift-left, shift-right}
use Rattle.limbstages.proofs.WritesLaws.{writes_as, writes-exited}
use Rattle.limbs.proofs.bitwise_shift.Goals as goal

pub returns-in_err-check_operand : goal.returns-in_err-check_operand
unfolding shift_outcome
returns-in_err-check_operand c = writes-exited _ _ (operand-err _ _ _ c.in_err-check_operand.ensures) c.from_residual.ensures.1

pub returns-then-distance-lt0 : goal.returns-then-distance-lt0
unfolding shift_outcome
returns-then-distance-lt0 c =
    let b = back c.ranges.distance in
    let l = operand-ok _ _ _ c.in_ok-check_operand.ensures in
    writes_as
    (l.1
    ∙ shift-right _ l.0 c.args.distance (position-tested _ b ∙ ap not c.if-distance-lt0.true)
    ∙ ap (λ (by : ℕ). done (shift.shift_right (value c.args.x.now) by)) (sym (c.unsigned_abs-by.ensures.value ∙ ap nat_abs b)))
    c.shift_right.ensures

pub returns-else-distance-lt0 : goal.returns-else-distance-lt0
unfolding shift_outcome
returns-else-distance-lt0 c =
    let b = back c.ranges.distance in
    let l = operand-ok _ _ _ c.in_ok-check_operand.ensures in
    writes_as
    (l.1
    ∙ shift-left _ l.0 (natural-pos c.args.distance (position-tested _ b ∙ ap not c.if-distance-lt0.false) (c.unsigned_abs-by.ensures.value ∙ ap nat_abs b)))
    c.shift_left.ensures
