-- `words::logical::xor` meets its contract. Assumes nothing.
use Rattle.words.proofs.LogicalWords.{xor-word}
use Rattle.words.proofs.logical.xor.Goals as goal

pub returns : goal.returns
returns c = xor-word c.ranges.x c.ranges.y
