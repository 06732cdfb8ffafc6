-- `limbcount::count::length_of` meets its contract. Assumes nothing.
use lib.IntN.{pos}
use Rattle.words.proofs.CountWords.{leading-bit_length}
use Rattle.limbcount.proofs.count.length_of.Goals as goal

pub returns : goal.returns
returns c = rw c.from.ensures (leading-bit_length (pos c.args.w) 32 c.ranges.w.fits)
