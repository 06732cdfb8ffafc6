-- `fltext::number::places` meets its contract. Assumes nothing.
use native.Mathlib.Omega.{arith}
use mathlib.Core.Path.{refl}
use Rattle.fltext.specs.Forms as forms
use Rattle.fltext.proofs.number.places.Goals as goal

pub returns-then-hexadecimal : goal.returns-then-hexadecimal
unfolding forms.places
returns-then-hexadecimal c = record { value = rw c.if-hexadecimal.true refl; upper_bound = omega arith }

pub returns-else-hexadecimal : goal.returns-else-hexadecimal
unfolding forms.places
returns-else-hexadecimal c = record { value = rw c.if-hexadecimal.false refl; upper_bound = omega arith }
