-- `text::negate::negated` meets its contract, by its three cases. Assumes nothing.
use native.Mathlib.Omega.{arith}
use Rattle.text.proofs.negate.negated.Goals as goal

pub returns-then-lower : goal.returns-then-lower
returns-then-lower c = rw c.if-lower.true

pub returns-then-n-eq0 : goal.returns-then-n-eq0
returns-then-n-eq0 c = rw c.if-lower.false (omega (arith, c.if-n-eq0.true))

pub returns-else-n-eq0 : goal.returns-else-n-eq0
returns-else-n-eq0 c = rw c.if-lower.false (omega arith)
