-- `rulereader::read_last_form` meets its contract. Assumes nothing.
use Rattle.rulereader.proofs.Exits.{err_of}
use Rattle.rulereader.proofs.FormLaws.{all_read, more_left, form-offends}
use Rattle.rulereader.proofs.read_last_form.Goals as goal

pub returns-in_err-end : goal.returns-in_err-end
returns-in_err-end c = rw (err_of _ _ c.from_residual.ensures.1) (form-offends c.args.s.now c.args.width c.args.at c.requires _ c.in_err-end.ensures)

pub returns-then-end-s : goal.returns-then-end-s
returns-then-end-s c = all_read c.args.s.now c.args.width c.args.at c.requires _ c.in_ok-end.ensures c.if-end-s.true

pub returns-else-end-s : goal.returns-else-end-s
returns-else-end-s c = more_left c.args.s.now c.args.width c.args.at c.requires _ c.in_ok-end.ensures c.if-end-s.false
