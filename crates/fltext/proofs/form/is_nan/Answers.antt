-- `fltext::form::is_nan` meets its contract. Assumes nothing.
use mathlib.Core.Path.{refl}
use Rattle.fltext.specs.Forms.{is_nan}
use Rattle.fltext.proofs.FormLaws.{same_by}
use Rattle.fltext.proofs.form.is_nan.Goals as goal

pub returns-then-eq : goal.returns-then-eq
unfolding is_nan
returns-then-eq c = rw (← same_by _ _ _ c.eq.ensures c.as_slice.ensures, c.if-eq.true) refl

pub returns-else-eq : goal.returns-else-eq
unfolding is_nan
returns-else-eq c = rw (← same_by _ _ _ c.eq.ensures c.as_slice.ensures, c.if-eq.false) (same_by _ _ _ c.eq-else-eq.ensures c.as_slice-else-eq.ensures)
