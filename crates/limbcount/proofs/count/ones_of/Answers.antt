-- `limbcount::count::ones_of` meets its contract: the ones of a word are those of its halves. Assumes nothing.
use Rattle.std.proofs.Common.{rules}
use Prim.Native.Nat.{◌+◌, ◌*◌, ◌^◌}
use native.Mathlib.Omega.{arith}
use mathlib.Core.Path.{◌≡◌}
use lib.Count.{ones, ones_cat}
use Rattle.words.proofs.CountWords.{count_ones}
use Rattle.limbcount.proofs.count.ones_of.Goals as goal

pub returns : goal.returns
returns c =
    let low = c.args.low in
    let high = c.args.high in
    let all : c.from-3.result ≡ ones (high * 2 ^ 32 + low) = search rules in
    omega (arith, all, ones_cat 32 high low c.ranges.low.fits, count_ones low, count_ones high)
