-- `widewords::division::rounds_up` meets its contract. Assumes nothing.
use Rattle.widewords.proofs.DivisionWords.{nearest_negative, nearest-nonnegative, floor-negative, floor-nonnegative}
use Rattle.widewords.proofs.division.rounds_up.Goals as goal

pub returns-then-negative : goal.returns-then-negative
returns-then-negative c = rw (c.if-nearest.true, c.if-negative.true) (nearest_negative c.args.r c.args.b c.requires)

pub returns-else-negative : goal.returns-else-negative
returns-else-negative c = rw (c.if-nearest.true, c.if-negative.false) (nearest-nonnegative c.args.r c.args.b c.requires)

pub returns-then-negative-2 : goal.returns-then-negative-2
returns-then-negative-2 c = rw (c.if-nearest.false, c.if-negative-2.true) (floor-negative c.args.r c.args.b c.requires)

pub returns-else-negative-2 : goal.returns-else-negative-2
returns-else-negative-2 c = rw (c.if-nearest.false, c.if-negative-2.false) (floor-nonnegative c.args.r c.args.b c.requires)
