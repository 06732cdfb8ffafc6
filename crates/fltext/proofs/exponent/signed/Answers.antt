-- `fltext::exponent::signed` meets its contract. Assumes nothing.
use mathlib.Core.Path.{refl}
use Rattle.fltext.specs.Inner as inner
use Rattle.fltext.proofs.exponent.signed.Goals as goal

pub returns-then-negative : goal.returns-then-negative
unfolding inner.signed
returns-then-negative c = rw c.if-negative.true refl

pub returns-else-negative : goal.returns-else-negative
unfolding inner.signed
returns-else-negative c = rw c.if-negative.false refl
