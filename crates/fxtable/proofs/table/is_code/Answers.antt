-- `fxtable::table::is_code` meets its contract. Assumes nothing.
use lib.Dec.{leb}
use borrow.Author.Tests.{le-leb, lt-leb}
use Rattle.fxtable.specs.Table.{is_code, rows}
use Rattle.bits.proofs.Booleans.{and_first, and_second}
use Rattle.fxtable.proofs.table.is_code.Goals as goal

pub returns-then-code-ge1 : goal.returns-then-code-ge1
unfolding is_code rows
returns-then-code-ge1 c = and_second (leb 1 c.args.code) _ (le-leb 1 c.args.code c.if-code-ge1.true)

pub returns-else-code-ge1 : goal.returns-else-code-ge1
unfolding is_code rows
returns-else-code-ge1 c = and_first (leb 1 c.args.code) _ (lt-leb 1 c.args.code c.if-code-ge1.false)
