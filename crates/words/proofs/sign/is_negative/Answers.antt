-- `words::sign::is_negative` meets its contract. Assumes nothing.
use Rattle.words.proofs.WordLaws as laws
use Rattle.words.proofs.sign.is_negative.Goals as goal

pub returns : goal.returns
returns c = laws.is_negative-word c.ranges.x
