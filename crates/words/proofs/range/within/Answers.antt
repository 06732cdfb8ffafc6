-- `words::range::within` meets its contract. Assumes nothing.
use Rattle.std.proofs.Common.{rules}
use Rattle.bits.specs.Range.{within}
use Rattle.words.proofs.range.within.Goals as goal

pub returns : goal.returns
unfolding within
returns c = search rules
