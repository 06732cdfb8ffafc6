-- `fltext::rounding::exponent_field` meets its contract. Assumes nothing.
use native.Mathlib.Omega.{arith}
use mathlib.Core.Path.{refl}
use borrow.Author.Tests.{lt-ltb, le-ltb}
use Rattle.fltext.specs.Packing.{packed}
use Rattle.fltext.proofs.rounding.exponent_field.Goals as goal

pub returns-then-k-lt2046 : goal.returns-then-k-lt2046
unfolding packed
returns-then-k-lt2046 c = record { value = rw (lt-ltb c.args.k 2046 c.if-k-lt2046.true) (omega arith); upper_bound = omega arith }

pub returns-else-k-lt2046 : goal.returns-else-k-lt2046
unfolding packed
returns-else-k-lt2046 c = record { value = rw (le-ltb c.args.k 2046 c.if-k-lt2046.false) refl; upper_bound = omega arith }
