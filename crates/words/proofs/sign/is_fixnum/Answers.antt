-- `words::sign::is_fixnum` meets its contract. Assumes nothing.
use mathlib.Core.Path.{ap, ◌∙◌}
use lib.Signed.{mag}
use Rattle.bits.specs.Testbit.{fits}
use Rattle.words.proofs.WordLaws.{back}
use Rattle.words.proofs.sign.is_fixnum.Goals as goal

pub returns : goal.returns
unfolding fits
returns c = cc (c.magnitude.ensures ∙ ap mag (back c.ranges.x), c.power.ensures)
