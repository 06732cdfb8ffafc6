-- `fxstages::domains::is_rotation` meets its contract. Assumes nothing.
use Rattle.words.proofs.WordLaws.{back}
use Rattle.bits.specs.Range.{within}
use Rattle.bits.proofs.Booleans.{and_first, and_second}
use Rattle.fxstages.proofs.domains.is_rotation.Goals as goal

pub returns-then-x-ge0 : goal.returns-then-x-ge0
unfolding within
returns-then-x-ge0 c =
    let f = c.ranges in
    rw (back f.x, back f.size) (and_second _ _ (rw (back f.x) at c.if-x-ge0.true))

pub returns-else-x-ge0 : goal.returns-else-x-ge0
unfolding within
returns-else-x-ge0 c =
    let f = c.ranges in
    rw (back f.x) (and_first _ _ (rw (back f.x) at c.if-x-ge0.false))
