-- `limbs::bitwise_shift_right` meets its contract. Assumes nothing.
use mathlib.Core.Path.{ap, ◌∙◌}
use lib.IntN.{ℤ, nat_abs}
use Rattle.bits.specs.Shift.{shift_right}
use Rattle.outcomes.specs.Outcome.{done}
use Rattle.limbwords.specs.Value.{value}
use Rattle.limbs.specs.Operations.{shift_right_outcome}
use Rattle.limbs.proofs.CheckLaws.{natural-refused, natural-legal}
use Rattle.limbstages.proofs.WritesLaws.{writes_as, writes-exited}
use Rattle.limbs.proofs.bitwise_shift_right.Goals as goal

pub shift_right-requires : goal.shift_right-requires
shift_right-requires c = (natural-legal c.args.x.now c.ranges.distance c.check_natural.ensures c.in_ok-by.was).0

pub returns : goal.returns
unfolding shift_right_outcome
returns c =
    let l = natural-legal c.args.x.now c.ranges.distance c.check_natural.ensures c.in_ok-by.was in
    writes_as (l.1.1 _ ∙ ap (λ (d : ℤ). done (shift_right (value c.args.x.now) (nat_abs d))) l.1.0) c.shift_right.ensures

pub returns-in_err-by : goal.returns-in_err-by
unfolding shift_right_outcome
returns-in_err-by c = writes-exited _ _ (natural-refused _ c.ranges.distance c.check_natural.ensures _ c.in_err-by.was) c.from_residual.ensures.1
