-- `flonum::ieee::the_nan` meets its contract. Assumes nothing.
use Rattle.std.proofs.Common.{refl}
use lib.Ieee.{div, of_bits}
use Rattle.flonum.proofs.ieee.the_nan.Goals as goal

pub returns : goal.returns
unfolding div of_bits
returns c = refl
