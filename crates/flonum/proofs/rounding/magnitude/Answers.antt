-- `flonum::rounding::magnitude` meets its contract. Assumes nothing.
use Rattle.std.proofs.Common.{refl}
use Rattle.flonum.specs.Rounding.{magnitude}
use Rattle.flonum.proofs.RoundingLaws.{answers}
use Rattle.flonum.proofs.rounding.magnitude.Goals as goal

pub returns-then-negative : goal.returns-then-negative
unfolding magnitude
returns-then-negative c = answers _ c.requires c.in-Floor.is c.if-negative.true c.rounded_up.ensures

pub returns-else-negative : goal.returns-else-negative
unfolding magnitude
returns-else-negative c = answers _ c.requires c.in-Floor.is c.if-negative.false c.rounded_down.ensures

pub returns-then-negative-2 : goal.returns-then-negative-2
unfolding magnitude
returns-then-negative-2 c = answers _ c.requires c.in-Ceiling.is c.if-negative-2.true c.rounded_down-then-negative-2.ensures

pub returns-else-negative-2 : goal.returns-else-negative-2
unfolding magnitude
returns-else-negative-2 c = answers _ c.requires c.in-Ceiling.is c.if-negative-2.false c.rounded_up-else-negative-2.ensures

pub returns-in-Truncate : goal.returns-in-Truncate
unfolding magnitude
returns-in-Truncate c = answers _ c.requires c.in-Truncate.is refl c.rounded_down-in-Truncate.ensures

pub returns-in-Round : goal.returns-in-Round
unfolding magnitude
returns-in-Round c = answers _ c.requires c.in-Round.is refl c.rounded_even.ensures
