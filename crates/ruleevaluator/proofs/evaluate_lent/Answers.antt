-- `ruleevaluator::evaluate_lent` meets its contract. Assumes nothing.
use Prim.Native.Nat.{ℕ}
use mathlib.Core.Path.{ap, ◌∙◌}
use Rattle.outcomes.specs.Refusal.{code_of}
use Rattle.rules.specs.Answers.{bad_rule}
use Rattle.rulevalues.proofs.AnswerLaws.{sixteen, not-sixteen}
use Rattle.ruleevaluator.proofs.evaluate_lent.Goals as goal

pub returns-then-inputs-eq16 : goal.returns-then-inputs-eq16
returns-then-inputs-eq16 c =
    let a = c.args in
    c.evaluate_rule.ensures ∙ sixteen a.rule.now a.inputs.now c.if-inputs-eq16.true

pub returns-else-inputs-eq16 : goal.returns-else-inputs-eq16
unfolding code_of
returns-else-inputs-eq16 c =
    let a = c.args in
    c.bad_rule.ensures ∙ ap (λ (k : ℕ). bad_rule k 0) c.into.ensures ∙ not-sixteen a.rule.now a.inputs.now c.if-inputs-eq16.false
