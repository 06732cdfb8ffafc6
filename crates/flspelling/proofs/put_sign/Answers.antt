-- `flspelling::put_sign` meets its contract. Assumes nothing.
use Prim.Native.Nat.{◌^◌}
use borrow.Author.Tests.{lt-ltb, le-ltb}
use Rattle.flspelling.specs.Spellings.{sign}
use Rattle.flspelling.proofs.put_sign.Goals as goal

pub returns-then-b-lt9223372036854775808 : goal.returns-then-b-lt9223372036854775808
unfolding sign
returns-then-b-lt9223372036854775808 c =
    rw (lt-ltb _ (2 ^ 63) c.if-b-lt9223372036854775808.true) (record { count = c.put.ensures.filled; buffer = c.put.ensures.bytes })

pub returns-else-b-lt9223372036854775808 : goal.returns-else-b-lt9223372036854775808
unfolding sign
returns-else-b-lt9223372036854775808 c =
    rw (le-ltb _ (2 ^ 63) c.if-b-lt9223372036854775808.false) (record { count = c.put-else-b-lt9223372036854775808.ensures.filled; buffer = c.put-else-b-lt9223372036854775808.ensures.bytes })
