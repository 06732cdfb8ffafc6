-- `fxtable::width::is_width` meets its contract. Assumes nothing.
use lib.Dec.{leb}
use borrow.Author.Tests.{le-leb, lt-leb}
use Rattle.fxtable.specs.Domains.{is_width, least_width, largest_width}
use Rattle.bits.proofs.Booleans.{and_first, and_second}
use Rattle.fxtable.proofs.width.is_width.Goals as goal

pub returns-then-width-ge-LEAST_WIDTH : goal.returns-then-width-ge-LEAST_WIDTH
unfolding is_width least_width largest_width
returns-then-width-ge-LEAST_WIDTH c = and_second (leb 24 c.args.width) _ (le-leb 24 c.args.width c.if-width-ge-LEAST_WIDTH.true)

pub returns-else-width-ge-LEAST_WIDTH : goal.returns-else-width-ge-LEAST_WIDTH
unfolding is_width least_width largest_width
returns-else-width-ge-LEAST_WIDTH c = and_first (leb 24 c.args.width) _ (lt-leb 24 c.args.width c.if-width-ge-LEAST_WIDTH.false)
