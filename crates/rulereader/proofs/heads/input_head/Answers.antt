-- `rulereader::heads::input_head` meets its contract. Assumes nothing.
use Rattle.rulereader.proofs.Exits.{err_of}
use Rattle.rulereader.proofs.HeadLaws.{input-read, input-fails, input-offends}
use Rattle.rulereader.proofs.heads.input_head.Goals as goal

pub returns-in_err-index : goal.returns-in_err-index
returns-in_err-index c = rw (err_of _ _ c.from_residual.ensures.1) (input-offends c.args.s.now c.args.at _ c.in_err-index.ensures)

pub returns-then-index-lt-INPUTS : goal.returns-then-index-lt-INPUTS
returns-then-index-lt-INPUTS c = input-read c.args.s.now c.args.at _ c.in_ok-index.ensures c.if-index-lt-INPUTS.true

pub returns-else-index-lt-INPUTS : goal.returns-else-index-lt-INPUTS
returns-else-index-lt-INPUTS c = input-fails c.args.s.now c.args.at _ c.in_ok-index.ensures c.if-index-lt-INPUTS.false
