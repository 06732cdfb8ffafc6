-- `fxbits::shifts::shift_right` meets its contract. Assumes nothing.
use native.Mathlib.Omega.{arith}
use mathlib.Core.Path.{refl, ap, ◌∙◌}
use lib.IntN.{nat_abs}
use Rattle.bits.specs.Shift.{shift_right}
use Rattle.fxtable.specs.Domains.{arg, domain_at}
use Rattle.fxtable.specs.Table.{rows, row_of}
use Rattle.fxtable.proofs.CallLaws.{done-never}
use Rattle.fxtable.proofs.MeaningLaws.{two-outcome}
use Rattle.fxstages.proofs.ArgumentLaws.{distance-lt}
use Rattle.fxbits.proofs.ShiftLaws.{ShiftWords, shift-words, on-shift}
use Rattle.fxbits.proofs.shifts.shift_right.Goals as goal
use Rattle.fxbits.proofs.shifts.shift_right.Goals.{After-absolute, Start}

abbrev start : After-absolute → Start
start c = c.before.before.before

words : (c : After-absolute) → ShiftWords (start c).args.call.args c.absolute.result
unfolding arg rows row_of domain_at
words c = shift-words (distance-lt (start c).args.call.accepted (rw (start c).requires refl)) (omega arith) (omega arith) c.absolute.ensures

pub right-requires : goal.right-requires
right-requires c = (words c).bound

pub returns : goal.returns
unfolding rows row_of arg
returns c =
    done-never _ c.done.ensures c.right.type_inv (c.right.ensures ∙ on-shift (words c.before.before) shift_right)
    ∙ two-outcome (λ v x d. shift_right x (nat_abs d)) (ap row_of (start c.before.before).requires) (start c.before.before).args.call.accepted
