-- `ruleevaluator::evaluate_rule` meets its contract. Assumes nothing.
use Prim.Native.Nat.{ℕ}
use mathlib.Core.Path.{ap, ◌∙◌}
use Rattle.outcomes.specs.Refusal.{code_of}
use Rattle.rules.specs.Answers.{bad_rule}
use Rattle.rulevalues.proofs.AnswerLaws.{runs-at-width, rule-evaluated, rule-refused}
use Rattle.ruleevaluator.proofs.evaluate_rule.Goals as goal

pub evaluate_form-requires-clause-width_value : goal.evaluate_form-requires-clause-width_value
evaluate_form-requires-clause-width_value c = (rw c.runs_at-width.ensures (runs-at-width c.in-Ok.stored.width c.in-Ok.ensures.stored_width), c.requires)

pub returns-in-Ok : goal.returns-in-Ok
returns-in-Ok c =
    let m = c.in-Ok.ensures.rule_read in
    c.rule_answer.ensures
    ∙ rule-evaluated c.args.rule.now c.args.inputs.now _ _ c.runs_at-width.result m.0 m.1 c.runs_at-width.ensures
    c.evaluate_form.result c.evaluate_form.ensures

pub returns-in-Err : goal.returns-in-Err
unfolding code_of
returns-in-Err c =
    c.bad_rule.ensures
    ∙ ap (λ (k : ℕ). bad_rule k c.in-Err.offence.offset) c.into.ensures
    ∙ rule-refused c.args.rule.now c.args.inputs.now _ c.in-Err.ensures.rule_read
