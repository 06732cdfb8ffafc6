-- `flspelling::put_leading` meets its contract. Assumes nothing.
use borrow.Author.Tests.{eq-eqb, ne_eqb}
use Rattle.flspelling.specs.Spellings.{leading}
use Rattle.flspelling.proofs.put_leading.Goals as goal

pub returns-then-e-eq0 : goal.returns-then-e-eq0
unfolding leading
returns-then-e-eq0 c =
    rw (eq-eqb _ 0 c.if-e-eq0.true) (record { count = c.put.ensures.filled; buffer = c.put.ensures.bytes })

pub returns-else-e-eq0 : goal.returns-else-e-eq0
unfolding leading
returns-else-e-eq0 c =
    rw (ne_eqb _ 0 c.if-e-eq0.false) (record { count = c.put-else-e-eq0.ensures.filled; buffer = c.put-else-e-eq0.ensures.bytes })
