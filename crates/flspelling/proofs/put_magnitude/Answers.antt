-- `flspelling::put_magnitude` meets its contract. Assumes nothing.
use mathlib.Core.Path.{sym}
use mathlib.Core.List.{◌++◌}
use borrow.Author.Tests.{eq-eqb, ne_eqb, lt-ltb, le-ltb}
use Rattle.flspelling.specs.Spellings.{leading, pointed, power, scale, magnitude}
use Rattle.output.proofs.PutsLaws.{puts_then}
use Rattle.flspelling.proofs.put_magnitude.Goals as goal

pub returns-then-m-eq0 : goal.returns-then-m-eq0
unfolding magnitude
returns-then-m-eq0 c =
    rw (le-ltb _ 2047 c.if-e-ge2047.true, eq-eqb _ 0 c.if-m-eq0.true) (record { count = c.put.ensures.filled; buffer = c.put.ensures.bytes })

pub returns-else-m-eq0 : goal.returns-else-m-eq0
unfolding magnitude
returns-else-m-eq0 c =
    rw (le-ltb _ 2047 c.if-e-ge2047.true, ne_eqb _ 0 c.if-m-eq0.false) (record { count = c.put-else-m-eq0.ensures.filled; buffer = c.put-else-m-eq0.ensures.bytes })

pub returns : goal.returns
unfolding magnitude
returns c =
    let e = c.args.e in
    let m = c.args.m in
    let s = c.scale.ensures in
    rw (lt-ltb e 2047 c.if-e-ge2047.false)
    (puts_then (leading e) (pointed m ++ power (scale e m)) c.put_leading.ensures
    (puts_then (pointed m) (power (scale e m)) c.put_pointed.ensures (rw (sym s) c.put_power.ensures)))
