-- `words::logical::ior` meets its contract. Assumes nothing.
use Rattle.words.proofs.LogicalWords.{ior-word}
use Rattle.words.proofs.logical.ior.Goals as goal

pub returns : goal.returns
returns c = ior-word c.ranges.x c.ranges.y
