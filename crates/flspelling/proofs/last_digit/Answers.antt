-- `flspelling::last_digit` meets its contract. Assumes nothing.
use mathlib.Core.Path.{refl}
use Rattle.flspelling.specs.Spellings.{last_digit}
use Rattle.flspelling.proofs.last_digit.Goals as goal

pub returns : goal.returns
unfolding last_digit
returns c = refl
