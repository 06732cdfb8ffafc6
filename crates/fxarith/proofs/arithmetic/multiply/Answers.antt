-- `fxarith::arithmetic::multiply` meets its contract. Assumes nothing.
use native.Mathlib.Omega.{arith}
use mathlib.Core.Path.{refl, ap₂, ◌∙◌}
use lib.IntN.{◌*ℤ◌}
use mir.Syntax.{w64}
use mir.Val.{SFits}
use Rattle.words.proofs.WordLaws.{back}
use Rattle.outcomes.specs.Refusal.{code_of}
use Rattle.outcomes.specs.declared.refusal.Refusal.{Refusal}
use Rattle.fxtable.specs.Domains.{arg}
use Rattle.fxtable.proofs.CallLaws.{number-positive, checked-as, checked-cong}
use Rattle.fxarith.proofs.ArithmeticLaws.{product-outcome}
use Rattle.fxarith.proofs.arithmetic.multiply.Goals as goal

pub exact-requires : goal.exact-requires
exact-requires c = record { width_value = c.args.call.accepted.width; number = number-positive Refusal.Overflow }

pub returns : goal.returns
unfolding arg code_of
returns c =
    let first : SFits w64 (arg c.args.call.args 0) = record { sfits = omega arith } in
    let second : SFits w64 (arg c.args.call.args 1) = record { sfits = omega arith } in
    checked-as _ _ c.exact.ensures
    ∙ checked-cong 6 _ (c.product.ensures ∙ ap₂ ◌*ℤ◌ (back first) (back second)) refl
    ∙ product-outcome c.requires c.args.call.accepted
