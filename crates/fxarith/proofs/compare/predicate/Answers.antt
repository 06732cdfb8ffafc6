-- `fxarith::compare::predicate` meets its contract. Assumes nothing.
use Prim.Native.Nat.{ℕ, ◌%◌}
use native.Mathlib.Omega.{arith}
use mathlib.Core.Path.{◌≡◌, refl, ap, ap₂, ◌∙◌}
use mathlib.Core.Bool.{Bool, not}
use mathlib.Core.List.{[]}
use lib.Dec.{eqb}
use lib.IntN.{ℤ, pos, nat_abs}
use lib.Signed.{lt_z}
use mir.Syntax.{w64}
use mir.Val.{to_z, of_z}
use Rattle.bits.specs.Testbit.{odd}
use Rattle.words.proofs.WordLaws.{back-word}
use Rattle.outcomes.specs.Outcome.{done}
use Rattle.fxtable.specs.Calls.{answer, counted, outcome}
use Rattle.fxtable.specs.Domains.{arg}
use Rattle.fxtable.specs.Operations.{single, truth, is_zero, is_positive, is_below_zero, is_odd, is_even}
use Rattle.fxtable.specs.Table.{row, rows, row_of}
use Rattle.fxtable.proofs.CallLaws.{done-cong, never-checked}
use Rattle.fxtable.proofs.MeaningLaws.{one-outcome}
use Rattle.fxarith.proofs.compare.predicate.Goals as goal
use Rattle.fxarith.proofs.compare.predicate.Goals.{After-absolute-n}

-- a test of the argument and of its absolute value, as the answer of its code
tested : (p : ℤ → ℕ → Bool) (c : After-absolute-n)
    → row_of c.args.call.code ≡ row 1 1 [] 0 (single (λ v ys. truth (p (arg ys 0) (nat_abs (arg ys 0)))))
    → answer (done (truth (p (to_z w64 (of_z w64 (arg c.args.call.args 0))) c.absolute-n.result), pos 0))
    ≡ answer (outcome c.args.call.width c.args.call.code (counted c.args.call.args c.args.call.count))
unfolding arg
tested p c e =
    let x = back-word (arg c.args.call.args 0) (omega arith) in
    done-cong (ap₂ (λ (y : ℤ) (n : ℕ). truth (p y n)) x (c.absolute-n.ensures ∙ ap nat_abs x)) refl
    ∙ never-checked c.args.call.width _
    ∙ one-outcome (λ v y. truth (p y (nat_abs y))) e c.args.call.accepted

pub returns-in-6 : goal.returns-in-6
unfolding rows row_of arg is_zero
returns-in-6 c = c.question.ensures ∙ tested (λ x n. eqb n 0) c.before.before (ap row_of c.in-6.is)

pub returns-in-7 : goal.returns-in-7
unfolding rows row_of arg is_positive
returns-in-7 c = c.question-in-7.ensures ∙ tested (λ x n. lt_z (pos 0) x) c.before.before (ap row_of c.in-7.is)

pub returns-in-8 : goal.returns-in-8
unfolding rows row_of arg is_below_zero
returns-in-8 c = c.question-in-8.ensures ∙ tested (λ x n. lt_z x (pos 0)) c.before.before (ap row_of c.in-8.is)

pub returns-in-9 : goal.returns-in-9
unfolding rows row_of arg is_odd odd
returns-in-9 c = c.question-in-9.ensures ∙ tested (λ x n. eqb (n % 2) 1) c.before.before (ap row_of c.in-9.is)

pub returns-in_default : goal.returns-in_default
unfolding rows row_of arg is_even odd
returns-in_default c =
    let e : c.args.call.code ≡ 10 = omega arith in
    c.question-in_default.ensures ∙ tested (λ x n. not (eqb (n % 2) 1)) c.before.before (ap row_of e)
