-- `words::logical::and` meets its contract. Assumes nothing.
use Rattle.words.proofs.LogicalWords.{and_word}
use Rattle.words.proofs.logical.and.Goals as goal

pub returns : goal.returns
returns c = and_word c.ranges.x c.ranges.y
