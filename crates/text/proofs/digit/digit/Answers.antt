-- `text::digit::digit` meets its contract. Assumes nothing.
use mathlib.Core.Path.{ap, ◌∙◌}
use Rattle.text.specs.Numerals.{digit_of}
use Rattle.text.proofs.DigitValues.{as_digit}
use Rattle.text.proofs.digit.digit.Goals as goal

pub returns : goal.returns
returns c = as_digit _ _ _ c.to_digit.ensures.value c.map.ensures.cases ∙ ap digit_of c.from.ensures
