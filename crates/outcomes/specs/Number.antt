-- The answer of a call that writes nothing.
--   number o      ==  refusal 0 and the value; or the refusal number, and 0
use Rattle.std.specs.Prelude.{ℤ, pos}
use Rattle.outcomes.specs.Outcome.{Outcome, refused, done}
use Rattle.outcomes.specs.declared.number.Number.{Number}

unfoldable pub number : Outcome ℤ → Number
number (refused k detail) = record { refusal = k; value = pos 0 }
number (done z) = record { refusal = 0; value = z }
