-- `fltext::form::is_infinite` meets its contract. Assumes nothing.
use mathlib.Core.Path.{refl}
use Rattle.fltext.specs.Forms.{is_infinite}
use Rattle.fltext.proofs.FormLaws.{same_by}
use Rattle.fltext.proofs.form.is_infinite.Goals as goal

pub returns-then-eq : goal.returns-then-eq
unfolding is_infinite
returns-then-eq c = rw (← same_by _ _ _ c.eq.ensures c.as_slice.ensures, c.if-eq.true) refl

pub returns-else-eq : goal.returns-else-eq
unfolding is_infinite
returns-else-eq c = rw (← same_by _ _ _ c.eq.ensures c.as_slice.ensures, c.if-eq.false) (same_by _ _ _ c.eq-else-eq.ensures c.as_slice-else-eq.ensures)
