-- `text::digit::is_digit` meets its contract. Assumes nothing.
use mathlib.Core.Path.{ap, ◌∙◌}
use lib.Dec.{ltb}
use Rattle.text.proofs.DigitValues.{digit_or}
use Rattle.text.proofs.digit.is_digit.Goals as goal

pub returns : goal.returns
returns c = ap (λ d. ltb d c.args.base) (c.unwrap_or.ensures ∙ digit_or _ c.digit.ensures)
