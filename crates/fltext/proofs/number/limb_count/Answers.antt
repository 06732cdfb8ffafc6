-- `fltext::number::limb_count` meets its contract. Assumes nothing.
use native.Mathlib.Omega.{arith}
use Rattle.fltext.specs.Inner.{room_for}
use Rattle.fltext.proofs.number.limb_count.Goals as goal

pub returns : goal.returns
unfolding room_for
returns c = (omega (arith, c.requires), omega (arith, c.requires))
