-- `rulereader::heads::read_head` meets its contract. Assumes nothing.
use native.Mathlib.Omega.{arith}
use borrow.Author.Rules.{rules}
use Rattle.rulereader.proofs.Exits.{err_of}
use Rattle.rulereader.proofs.HeadLaws.{tag_read, tag-fails, tag-offends}
use Rattle.rulereader.proofs.heads.read_head.Goals as goal

pub returns-in_err-read_number : goal.returns-in_err-read_number
returns-in_err-read_number c = rw (err_of _ _ c.from_residual.ensures.1) (tag-offends c.args.s.now c.args.at _ c.in_err-read_number.ensures)

pub returns-in-0 : goal.returns-in-0
returns-in-0 c = tag_read c.args.s.now c.args.at _ 0 c.in_ok-read_number.ensures c.in-0.is (omega arith) _ c.constant_head.ensures

pub returns-in-1 : goal.returns-in-1
returns-in-1 c = tag_read c.args.s.now c.args.at _ 1 c.in_ok-read_number.ensures c.in-1.is (omega arith) _ c.input_head.ensures

pub returns-in-2 : goal.returns-in-2
returns-in-2 c = tag_read c.args.s.now c.args.at _ 2 c.in_ok-read_number.ensures c.in-2.is (omega arith) _ c.call_head.ensures

pub returns-in_default : goal.returns-in_default
returns-in_default c = tag-fails c.args.s.now c.args.at _ c.in_ok-read_number.ensures (search rules) (search rules) (search rules)
