-- `flspelling::put_power` meets its contract. Assumes nothing.
use Prim.Native.Nat.{◌-◌}
use mathlib.Core.List.{[], ◌∷◌}
use borrow.Author.Tests.{lt-ltb, le-ltb}
use Rattle.flspelling.specs.Spellings.{decimal, power}
use Rattle.output.proofs.PutsLaws.{puts_then}
use Rattle.flspelling.proofs.put_power.Goals as goal

pub returns-then-f-lt1023 : goal.returns-then-f-lt1023
unfolding power
returns-then-f-lt1023 c =
    let f = c.args.f in
    rw (lt-ltb f 1023 c.if-f-lt1023.true)
    (puts_then (112 ∷ 45 ∷ []) (decimal (1023 - f)) (record { count = c.put.ensures.filled; buffer = c.put.ensures.bytes }) c.put_decimal.ensures)

pub returns : goal.returns
unfolding power
returns c =
    let f = c.args.f in
    rw (le-ltb f 1023 c.if-f-lt1023.false)
    (puts_then (112 ∷ 43 ∷ []) (decimal (f - 1023)) (record { count = c.put-2.ensures.filled; buffer = c.put-2.ensures.bytes }) c.put_decimal-2.ensures)
