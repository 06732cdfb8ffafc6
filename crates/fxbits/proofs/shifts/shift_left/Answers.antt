-- `fxbits::shifts::shift_left` meets its contract. Assumes nothing.
use native.Mathlib.Omega.{arith}
use mathlib.Core.Path.{refl, ap, ◌∙◌}
use lib.IntN.{nat_abs}
use Rattle.bits.specs.Shift.{shift_left}
use Rattle.fxtable.specs.Domains.{arg, domain_at}
use Rattle.fxtable.specs.Table.{rows, row_of}
use Rattle.fxtable.proofs.CallLaws.{checked-cong}
use Rattle.fxtable.proofs.MeaningLaws.{two-outcome}
use Rattle.fxstages.proofs.ArgumentLaws.{distance-lt}
use Rattle.fxbits.proofs.ShiftLaws.{ShiftWords, shift-words, on-shift}
use Rattle.fxbits.proofs.shifts.shift_left.Goals as goal
use Rattle.fxbits.proofs.shifts.shift_left.Goals.{After-absolute, Start}

abbrev start : After-absolute → Start
start c = c.before.before.before

words : (c : After-absolute) → ShiftWords (start c).args.call.args c.absolute.result
unfolding arg rows row_of domain_at
words c = shift-words (distance-lt (start c).args.call.accepted (rw (start c).requires refl)) (omega arith) (omega arith) c.absolute.ensures

pub left-requires : goal.left-requires
left-requires c = ((start c).args.call.accepted.width, (words c).bound)

pub returns : goal.returns
unfolding rows row_of arg
returns c =
    c.left.ensures
    ∙ checked-cong 6 (start c.before).args.call.width (on-shift (words c.before) shift_left) refl
    ∙ two-outcome (λ v x d. shift_left x (nat_abs d)) (ap row_of (start c.before).requires) (start c.before).args.call.accepted
