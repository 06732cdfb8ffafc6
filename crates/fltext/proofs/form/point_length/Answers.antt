-- `fltext::form::point_length` meets its contract. Assumes nothing.
use mathlib.Core.Path.{refl}
use borrow.Author.Tests.{eq-eqb, ne_eqb}
use Rattle.fltext.specs.Forms.{point_length}
use Rattle.fltext.proofs.form.point_length.Goals as goal

pub returns-then-byte_at-eq46 : goal.returns-then-byte_at-eq46
unfolding point_length
returns-then-byte_at-eq46 c = rw (← c.byte_at.ensures, eq-eqb _ 46 c.if-byte_at-eq46.true) refl

pub returns-else-byte_at-eq46 : goal.returns-else-byte_at-eq46
unfolding point_length
returns-else-byte_at-eq46 c = rw (← c.byte_at.ensures, ne_eqb _ 46 c.if-byte_at-eq46.false) refl
