-- `limbs::bitwise_shift_left` meets its contract. Assumes nothing.
use mathlib.Core.Path.{ap, ◌∙◌}
use lib.IntN.{ℤ, nat_abs}
use Rattle.bits.specs.Shift.{shift_left}
use Rattle.limbwords.specs.Value.{value}
use Rattle.limbstages.specs.Stages.{sized}
use Rattle.limbs.specs.Operations.{shift_left_outcome}
use Rattle.limbs.proofs.CheckLaws.{natural-refused, natural-legal}
use Rattle.limbstages.proofs.WritesLaws.{writes_as, writes-exited}
use Rattle.limbs.proofs.bitwise_shift_left.Goals as goal

pub shift_left-requires : goal.shift_left-requires
shift_left-requires c = (natural-legal c.args.x.now c.ranges.distance c.check_natural.ensures c.in_ok-by.was).0

pub returns : goal.returns
unfolding shift_left_outcome
returns c =
    let l = natural-legal c.args.x.now c.ranges.distance c.check_natural.ensures c.in_ok-by.was in
    writes_as (l.1.1 _ ∙ ap (λ (d : ℤ). sized (shift_left (value c.args.x.now) (nat_abs d))) l.1.0) c.shift_left.ensures

pub returns-in_err-by : goal.returns-in_err-by
unfolding shift_left_outcome
returns-in_err-by c = writes-exited _ _ (natural-refused _ c.ranges.distance c.check_natural.ensures _ c.in_err-by.was) c.from_residual.ensures.1
