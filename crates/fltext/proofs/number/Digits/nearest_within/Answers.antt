-- `fltext::number::Digits::nearest_within` meets its contract. Assumes nothing.
use mathlib.Core.Path.{◌∙◌}
use Rattle.fltext.proofs.NumberLaws.{quotient-bits}
use Rattle.fltext.proofs.number.Digits.nearest_within.Goals as goal

pub returns : goal.returns
returns c =
    c.nearest_bits.ensures ∙ quotient-bits _ _ _ _ c.radix.ensures.value c.put_numerator.ensures c.divide_power-rest.ensures.value c.divide_power-rest.ensures.becomes
