-- `rulereader::read` meets its contract. Assumes nothing.
use Rattle.outcomes.specs.Refusal.{code_of}
use Rattle.rules.specs.Evaluate.{runs_at}
use Rattle.rules.specs.Answers.{read_answer, read_of}
use Rattle.rulereader.proofs.read.Goals as goal

pub returns-in-Ok : goal.returns-in-Ok
unfolding read_answer read_of runs_at
returns-in-Ok c = rw (c.in-Ok.ensures.rule_read.1.parsed, c.runs_at.ensures)

pub returns-in-Err : goal.returns-in-Err
unfolding read_answer read_of code_of
returns-in-Err c = rw (c.from.ensures, c.in-Err.ensures.rule_read)
