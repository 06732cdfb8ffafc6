-- `fxarith::arithmetic::subtract` meets its contract. Assumes nothing.
use native.Mathlib.Omega.{arith}
use mathlib.Core.Path.{refl, ap, ◌∙◌}
use lib.IntN.{neg_ℤ}
use mir.Syntax.{w64}
use mir.Val.{SFits}
use Rattle.words.proofs.WordLaws.{back}
use Rattle.words.proofs.SignedLaws.{with_sign-not, rejoin}
use Rattle.outcomes.specs.Refusal.{code_of}
use Rattle.outcomes.specs.declared.refusal.Refusal.{Refusal}
use Rattle.fxtable.specs.Domains.{arg}
use Rattle.fxtable.proofs.CallLaws.{number-positive, checked-as, checked-cong}
use Rattle.fxarith.proofs.ArithmeticLaws.{negated-outcome, difference-held, difference-outcome}
use Rattle.fxarith.proofs.arithmetic.subtract.Goals as goal

pub checked-requires : goal.checked-requires
checked-requires c = record { width_value = c.args.call.accepted.width; number = number-positive Refusal.Domain }

pub returns-then-call-eq1 : goal.returns-then-call-eq1
unfolding arg code_of
returns-then-call-eq1 c =
    let first : SFits w64 (arg c.args.call.args 0) = record { sfits = omega arith } in
    checked-as _ _ c.checked.ensures
    ∙ checked-cong 5 _
    (with_sign-not _ _ ∙ ap neg_ℤ (rejoin first c.is_negative.ensures c.absolute.ensures)) refl
    ∙ negated-outcome _ c.requires _ _ c.if-call-eq1.true

pub returns : goal.returns
unfolding arg code_of
returns c =
    let first : SFits w64 (arg c.args.call.args 0) = record { sfits = omega arith } in
    let second : SFits w64 (arg c.args.call.args 1) = record { sfits = omega arith } in
    let more = c.if-call-eq1.false in
    c.without_carry.ensures _ (difference-held c.requires c.args.call.accepted more (cc (c.difference.ensures, back first, back second)))
    ∙ difference-outcome c.requires c.args.call.accepted more (omega arith)
