-- `fltext::number::radix` meets its contract. Assumes nothing.
use mathlib.Core.Path.{refl}
use lib.Dec.{lit<, lit≤}
use Rattle.fltext.specs.Forms as forms
use Rattle.fltext.proofs.number.radix.Goals as goal

pub returns-then-hexadecimal : goal.returns-then-hexadecimal
unfolding forms.radix
returns-then-hexadecimal c = record { value = rw c.if-hexadecimal.true refl; result_nonzero = (lit< tt, lit≤ tt) }

pub returns-else-hexadecimal : goal.returns-else-hexadecimal
unfolding forms.radix
returns-else-hexadecimal c = record { value = rw c.if-hexadecimal.false refl; result_nonzero = (lit< tt, lit≤ tt) }
