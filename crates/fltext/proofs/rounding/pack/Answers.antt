-- `fltext::rounding::pack` meets its contract. Assumes nothing.
use native.Mathlib.Omega.{arith}
use Rattle.fltext.specs.Packing.{packed}
use Rattle.fltext.proofs.rounding.pack.Goals as goal

pub returns-then-negative : goal.returns-then-negative
unfolding packed
returns-then-negative c = rw c.if-negative.true (omega (arith, c.exponent_field-magnitude.ensures.value))

pub returns-else-negative : goal.returns-else-negative
unfolding packed
returns-else-negative c = rw c.if-negative.false (omega (arith, c.exponent_field-magnitude.ensures.value))
