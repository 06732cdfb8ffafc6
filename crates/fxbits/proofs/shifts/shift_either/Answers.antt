-- `fxbits::shifts::shift_either` meets its contract. Assumes nothing.
use native.Mathlib.Omega.{arith}
use mathlib.Core.Path.{◌≡◌, refl, sym, ap, ◌∙◌}
use lib.Dec.{lit<}
use Rattle.bits.specs.Testbit.{is_negative}
use Rattle.bits.specs.Shift.{shift_left, shift_right, arithmetic_shift}
use Rattle.bits.proofs.FitsLaws.{right-fits}
use Rattle.words.proofs.WordLaws.{back-word}
use Rattle.fxtable.specs.Domains.{arg, domain_at}
use Rattle.fxtable.specs.Table.{rows, row_of}
use Rattle.fxtable.proofs.CallLaws.{done-word, checked-cong, checked-fits}
use Rattle.fxtable.proofs.MeaningLaws.{two-outcome}
use Rattle.fxstages.proofs.ArgumentLaws.{fixnum-at, signed-distance-lt}
use Rattle.fxbits.proofs.ShiftLaws.{ShiftWords, shift-words, on-shift, shift-left, shift-right}
use Rattle.fxbits.proofs.shifts.shift_either.Goals as goal
use Rattle.fxbits.proofs.shifts.shift_either.Goals.{After-absolute-k, After-is_negative, Start}

abbrev start : After-absolute-k → Start
start c = c.before.before.before

words : (c : After-absolute-k) → ShiftWords (start c).args.call.args c.absolute-k.result
unfolding arg rows row_of domain_at
words c = shift-words (signed-distance-lt (start c).args.call.accepted (rw (start c).requires refl)) (omega arith) (omega arith) c.absolute-k.ensures

sign : (c : After-is_negative) → is_negative (arg (start c.before).args.call.args 1) ≡ c.is_negative.result
unfolding arg
sign c = sym (c.is_negative.ensures ∙ ap is_negative (back-word (arg (start c.before).args.call.args 1) (omega arith)))

pub right-requires : goal.right-requires
right-requires c = (words c.before.before).bound

pub left-requires : goal.left-requires
left-requires c = ((start c.before.before).args.call.accepted.width, (words c.before.before).bound)

pub returns-then-is_negative : goal.returns-then-is_negative
unfolding rows row_of arg
returns-then-is_negative c =
    done-word c.done.ensures c.right.type_inv (c.right.ensures ∙ on-shift (words c.before.before.before.before) shift_right)
    ∙ sym (checked-fits 6 (start c.before.before.before.before).args.call.width _ _ (right-fits _ _ _ (fixnum-at (start c.before.before.before.before).args.call.accepted 0 (rw (start c.before.before.before.before).requires (lit< tt)))))
    ∙ checked-cong 6 (start c.before.before.before.before).args.call.width (sym (shift-right _ _ (sign c.before.before.before ∙ c.if-is_negative.true))) refl
    ∙ two-outcome (λ v x d. arithmetic_shift x d) (ap row_of (start c.before.before.before.before).requires) (start c.before.before.before.before).args.call.accepted

pub returns-else-is_negative : goal.returns-else-is_negative
unfolding rows row_of arg
returns-else-is_negative c =
    c.left.ensures
    ∙ checked-cong 6 (start c.before.before.before).args.call.width
    (on-shift (words c.before.before.before) shift_left ∙ sym (shift-left _ _ (sign c.before.before ∙ c.if-is_negative.false))) refl
    ∙ two-outcome (λ v x d. arithmetic_shift x d) (ap row_of (start c.before.before.before).requires) (start c.before.before.before).args.call.accepted
