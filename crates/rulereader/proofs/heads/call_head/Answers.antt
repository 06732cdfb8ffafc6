-- `rulereader::heads::call_head` meets its contract. Assumes nothing.
use mathlib.Core.Path.{sym, ◌∙◌}
use Rattle.rulereader.proofs.Exits.{err_of}
use Rattle.rulereader.proofs.HeadLaws.{code_read, code-fails, code-offends}
use Rattle.rulereader.proofs.heads.call_head.Goals as goal

pub returns-in_err-code : goal.returns-in_err-code
returns-in_err-code c = rw (err_of _ _ c.from_residual.ensures.1) (code-offends c.args.s.now c.args.at _ c.in_err-code.ensures)

pub returns-then-is_stored_code : goal.returns-then-is_stored_code
returns-then-is_stored_code c =
    code_read c.args.s.now c.args.at _ c.in_ok-code.ensures (sym c.is_stored_code.ensures ∙ c.if-is_stored_code.true) _ c.count_head.ensures

pub returns-else-is_stored_code : goal.returns-else-is_stored_code
returns-else-is_stored_code c = code-fails c.args.s.now c.args.at _ c.in_ok-code.ensures (sym c.is_stored_code.ensures ∙ c.if-is_stored_code.false)
