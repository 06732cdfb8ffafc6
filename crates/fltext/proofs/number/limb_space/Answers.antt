-- `fltext::number::limb_space` meets its contract. Assumes nothing.
use mathlib.Core.Path.{refl}
use lib.Dec.{lit≤}
use Rattle.text.specs.Naturals.{natural}
use Rattle.fltext.specs.Inner.{room_for}
use Rattle.fltext.proofs.number.limb_space.Goals as goal

pub returns : goal.returns
unfolding natural room_for
returns c = record { result_len = refl; cleared = record { room = lit≤ tt; zeros = refl } }
