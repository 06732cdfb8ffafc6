-- `fltext::rounding::rounded_up` meets its contract. Assumes nothing.
use native.Mathlib.Omega.{arith}
use mathlib.Core.Path.{refl}
use Rattle.fltext.specs.Packing.{rounded_up}
use Rattle.fltext.proofs.RoundLaws.{odd-tail}
use Rattle.fltext.proofs.rounding.rounded_up.Goals as goal

pub returns-in-true-true-clause-value : goal.returns-in-true-true-clause-value
unfolding rounded_up
returns-in-true-true-clause-value c = rw (c.in-true-true.is-0, c.in-true-true.is-1) refl

pub returns-in-true-false-clause-value : goal.returns-in-true-false-clause-value
unfolding rounded_up
returns-in-true-false-clause-value c = rw (c.in-true-false.is-0, c.in-true-false.is-1) (odd-tail c.args.q)

pub returns-in-false-default-clause-value : goal.returns-in-false-default-clause-value
unfolding rounded_up
returns-in-false-default-clause-value c = rw c.in-false-default.is-0 (omega arith)
