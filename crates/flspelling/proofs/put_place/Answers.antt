-- `flspelling::put_place` meets its contract. Assumes nothing.
use mathlib.Core.Path.{sym}
use borrow.Author.Tests.{lt-ltb, le-ltb}
use Rattle.flspelling.specs.Spellings.{place}
use Rattle.flspelling.proofs.put_place.Goals as goal

pub returns-then-n-p : goal.returns-then-n-p
unfolding place
returns-then-n-p c =
    rw (lt-ltb _ _ c.if-n-p.true) (record { count = c.put.ensures.filled; buffer = c.put.ensures.bytes })

pub returns : goal.returns
unfolding place
returns c =
    let d = c.last_digit.ensures in
    rw (le-ltb _ _ c.if-n-p.false, sym d) (record { count = c.put-2.ensures.filled; buffer = c.put-2.ensures.bytes })
