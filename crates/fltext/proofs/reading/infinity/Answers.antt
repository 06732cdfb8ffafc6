-- `fltext::reading::infinity` meets its contract. Assumes nothing.
use mathlib.Core.Path.{sym, ap}
use lib.Ieee.{inf, nan_bits, of_fields, of_bits}
use Rattle.fltext.proofs.reading.infinity.Goals as goal

pub float_from_bits-result : goal.float_from_bits-result
unfolding nan_bits
float_from_bits-result c = tt

pub float_from_bits-result-else-negative : goal.float_from_bits-result-else-negative
unfolding nan_bits
float_from_bits-result-else-negative c = tt

pub returns-then-negative : goal.returns-then-negative
unfolding of_fields of_bits
returns-then-negative c = ap inf (sym c.if-negative.true)

pub returns-else-negative : goal.returns-else-negative
unfolding of_fields of_bits
returns-else-negative c = ap inf (sym c.if-negative.false)
