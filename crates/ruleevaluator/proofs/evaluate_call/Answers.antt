-- `ruleevaluator::evaluate_call` meets its contract. Assumes nothing.
use Prim.Native.Nat.{◌≤◌}
use native.Mathlib.Omega.{arith}
use mathlib.Core.Path.{ap, ◌∙◌}
use lib.ListN.{length}
use Rattle.fxtable.specs.declared.answer.Answer.{Answer}
use Rattle.fxtable.proofs.TableLaws.{at-most-four}
use Rattle.rules.specs.Evaluate.{result_of}
use Rattle.rulevalues.specs.Evaluated.{told}
use Rattle.rulevalues.proofs.AnswerLaws.{by_count, first_fits}
use Rattle.ruleevaluator.proofs.evaluate_call.Goals as goal
use Rattle.ruleevaluator.proofs.evaluate_call.Goals.{Start}

-- there are as many slots as arguments
few : (b : Start) → b.args.n ≤ length b.args.values
few b = let m = at-most-four b.args.code b.args.n b.requires.checked.arity in omega (arith, m, b.well_formed.1.1.0.1.0.1)

pub evaluated_call-requires : goal.evaluated_call-requires
evaluated_call-requires c =
    let a = c.args in
    first_fits a.width a.code a.values a.n (few c.before) c.requires.checked.width c.call_checked.result c.call_checked.ensures

pub returns : goal.returns
returns c =
    let a = c.args in
    c.evaluated_call.ensures
    ∙ ap (λ (r : Answer). told a.p (result_of r)) (c.call_checked.ensures ∙ by_count a.width a.code a.values a.n (few c.before.before))
