-- `flspelling::put_pointed` meets its contract. Assumes nothing.
use mathlib.Core.List.{[], ◌∷◌}
use borrow.Author.Tests.{eq-eqb, ne_eqb}
use Rattle.flspelling.specs.Spellings.{fraction, pointed}
use Rattle.output.proofs.PutsLaws.{puts_then}
use Rattle.flspelling.proofs.put_pointed.Goals as goal

pub returns-then-m-eq0 : goal.returns-then-m-eq0
unfolding pointed
returns-then-m-eq0 c =
    rw (eq-eqb _ 0 c.if-m-eq0.true) (record { count = c.put.ensures.filled; buffer = c.put.ensures.bytes })

pub returns : goal.returns
unfolding pointed
returns c =
    let m = c.args.m in
    rw (ne_eqb m 0 c.if-m-eq0.false) (puts_then (46 ∷ []) (fraction 13 m) (record { count = c.put-2.ensures.filled; buffer = c.put-2.ensures.bytes }) c.put_fraction.ensures)
