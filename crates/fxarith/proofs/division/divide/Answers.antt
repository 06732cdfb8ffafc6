-- `fxarith::division::divide` meets its contract. Assumes nothing.
use native.Mathlib.Omega.{arith}
use borrow.Author.Rules.{rules}
use mathlib.Core.Path.{◌≡◌, refl, sym, ap₂, ◌∙◌, subst}
use Prim.Native.Nat.{◌<◌}
use lib.IntN.{ℤ, nat_abs}
use mir.Syntax.{w64}
use mir.Val.{to_z, of_z}
use Rattle.words.specs.Sign.{with_sign}
use Rattle.words.proofs.WordLaws.{back}
use Rattle.outcomes.specs.Refusal.{code_of}
use Rattle.outcomes.specs.declared.refusal.Refusal.{Refusal}
use Rattle.fxtable.specs.Domains.{arg}
use Rattle.fxtable.proofs.CallLaws.{number-positive, checked-as, done-cong, checked-cong, never-checked}
use Rattle.fxtable.proofs.MeaningLaws.{two-outcome, pair-outcome}
use Rattle.fxstages.proofs.ArgumentLaws.{divisor-positive}
use Rattle.fxarith.proofs.DivisionRows.{quotient_of, remainder_of, takes-divisor, quotient-row, remainder-row, both-row, both_code}
use Rattle.fxarith.proofs.division.divide.Goals as goal
use Rattle.fxarith.proofs.division.divide.Goals.{After-divide-q, After-from_absolute-m}

-- the quotient and the remainder of the two arguments
quotient_is : (c : After-divide-q) → with_sign c.divide-q.result.negative c.divide-q.result.absolute
    ≡ quotient_of c.args.call.code (arg c.args.call.args 0) (arg c.args.call.args 1)
unfolding arg
quotient_is c =
    c.divide-q.ensures.quotient
    ∙ ap₂ (quotient_of c.args.call.code) (back (record { sfits = omega arith }))
    (back (record { sfits = omega arith }))

remainder_is : (c : After-from_absolute-m) → to_z w64 (of_z w64 c.from_absolute-m.result)
    ≡ remainder_of c.args.call.code (arg c.args.call.args 0)
    (arg c.args.call.args 1)
unfolding arg
remainder_is c =
    back (record { sfits = c.from_absolute-m.type_inv })
    ∙ c.from_absolute-m.ensures
    ∙ c.divide-q.ensures.rest
    ∙ ap₂ (remainder_of c.args.call.code) (back (record { sfits = omega arith }))
    (back (record { sfits = omega arith }))

pub divide-q-requires : goal.divide-q-requires
unfolding arg
divide-q-requires c =
    subst (λ (y : ℤ). 0 < nat_abs y) {x = arg c.args.call.args 1} (sym (back (record { sfits = omega arith })))
    (divisor-positive c.args.call.accepted (takes-divisor c.args.call.code c.requires))

pub checked-requires : goal.checked-requires
checked-requires c = record { width_value = c.args.call.accepted.width; number = number-positive Refusal.Overflow }

pub checked-requires-in_default : goal.checked-requires-in_default
checked-requires-in_default c = record { width_value = c.args.call.accepted.width; number = number-positive Refusal.Overflow }

pub returns-in-16 : goal.returns-in-16
unfolding code_of
returns-in-16 c =
    checked-as _ _ c.checked.ensures
    ∙ checked-cong 6 c.args.call.width (quotient_is c.before.before.before) refl
    ∙ two-outcome (λ v x y. quotient_of c.args.call.code x y) (quotient-row c.in-16.is) c.args.call.accepted

pub returns-in-17 : goal.returns-in-17
returns-in-17 c =
    c.done.ensures
    ∙ done-cong (remainder_is c.before.before) refl
    ∙ never-checked c.args.call.width _
    ∙ two-outcome (λ v x y. remainder_of c.args.call.code x y) (remainder-row c.in-17.is) c.args.call.accepted

pub returns-in_default : goal.returns-in_default
unfolding code_of
returns-in_default c =
    checked-as _ _ c.checked-in_default.ensures
    ∙ checked-cong 6 c.args.call.width (quotient_is c.before.before.before) (remainder_is c.before.before)
    ∙ pair-outcome (λ v x y. (quotient_of c.args.call.code x y, remainder_of c.args.call.code x y))
    (both-row (both_code c.args.call.code c.requires (search rules) (search rules))) c.args.call.accepted
