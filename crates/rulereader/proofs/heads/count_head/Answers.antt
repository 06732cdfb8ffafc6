-- `rulereader::heads::count_head` meets its contract. Assumes nothing.
use mathlib.Core.Path.{sym, ◌∙◌}
use Rattle.rulereader.proofs.Exits.{err_of}
use Rattle.rulereader.proofs.HeadLaws.{count-read, count-fails, count-offends}
use Rattle.rulereader.proofs.heads.count_head.Goals as goal

pub returns-in_err-count : goal.returns-in_err-count
returns-in_err-count c = rw (err_of _ _ c.from_residual.ensures.1) (count-offends c.args.s.now c.args.at c.args.code _ c.in_err-count.ensures)

pub returns-then-is_count : goal.returns-then-is_count
returns-then-is_count c = count-read c.args.s.now c.args.at c.args.code _ c.in_ok-count.ensures (sym c.is_count.ensures ∙ c.if-is_count.true)

pub returns-else-is_count : goal.returns-else-is_count
returns-else-is_count c = count-fails c.args.s.now c.args.at c.args.code _ c.in_ok-count.ensures (sym c.is_count.ensures ∙ c.if-is_count.false)
