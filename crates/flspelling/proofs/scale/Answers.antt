-- `flspelling::scale` meets its contract. Assumes nothing.
use mathlib.Core.Path.{refl}
use borrow.Author.Tests.{eq-eqb, ne_eqb}
use Rattle.flspelling.specs.Spellings.{scale}
use Rattle.flspelling.proofs.scale.Goals as goal

pub returns-in-0-eq0 : goal.returns-in-0-eq0
unfolding scale
returns-in-0-eq0 c = rw (eq-eqb _ 0 c.in-0-eq0.is-0, eq-eqb _ 0 c.in-0-eq0.is-1) refl

pub returns-in-0-default : goal.returns-in-0-default
unfolding scale
returns-in-0-default c = rw (eq-eqb _ 0 c.in-0-default.is-0, ne_eqb _ 0 c.in-0-default.is-1.1) refl

pub returns-in_default : goal.returns-in_default
unfolding scale
returns-in_default c = rw (ne_eqb _ 0 c.in_default.is-0.1) refl
