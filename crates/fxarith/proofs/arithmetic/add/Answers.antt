-- `fxarith::arithmetic::add` meets its contract. Assumes nothing.
use native.Mathlib.Omega.{arith}
use mathlib.Core.Path.{◌∙◌}
use mir.Syntax.{w64}
use mir.Val.{SFits}
use Rattle.words.proofs.WordLaws.{back}
use Rattle.outcomes.specs.Refusal.{code_of}
use Rattle.fxtable.specs.Domains.{arg}
use Rattle.fxarith.proofs.ArithmeticLaws.{sum-held, sum-outcome}
use Rattle.fxarith.proofs.arithmetic.add.Goals as goal

pub returns : goal.returns
unfolding arg code_of
returns c =
    let a = c.args.call.accepted in
    let first : SFits w64 (arg c.args.call.args 0) = record { sfits = omega arith } in
    let second : SFits w64 (arg c.args.call.args 1) = record { sfits = omega arith } in
    c.without_carry.ensures _ (sum-held c.requires a (cc (c.sum.ensures, back first, back second)))
    ∙ sum-outcome c.requires a
