-- `rulevalues::evaluated_call` meets its contract. Assumes nothing.
use mir.Syntax.{w64}
use mir.ValLaws.{to_z-of_z}
use Rattle.words.proofs.WordLaws.{fits-mag}
use Rattle.rulevalues.proofs.AnswerLaws.{call-value, call-refused}
use Rattle.rulevalues.proofs.evaluated_call.Goals as goal

pub returns-then-answer-eq0 : goal.returns-then-answer-eq0
returns-then-answer-eq0 c =
    let a = c.args in
    call-value a.answer a.p _ (to_z-of_z w64 a.answer.first (record { sfits = fits-mag 64 a.answer.first c.requires })) c.if-answer-eq0.true

pub returns-else-answer-eq0 : goal.returns-else-answer-eq0
returns-else-answer-eq0 c =
    let a = c.args in
    call-refused a.answer a.p c.if-answer-eq0.false
