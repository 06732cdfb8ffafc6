-- `text::long::put_word` meets its contract. Assumes nothing.
use Prim.Native.Nat.{◌/◌, ◌%◌}
use native.Mathlib.Omega.{arith}
use mathlib.Core.Path.{refl}
use lib.IntN.{pos}
use lib.ListN.{length-set}
use Rattle.limbwords.specs.Value.{limbs_of}
use Rattle.text.proofs.NumeralLimbs.{put-more, limb-natural, limb-above}
use Rattle.text.proofs.long.put_word.Goals as goal

pub bounds-out-1 : goal.bounds-out-1
bounds-out-1 c = simp length-set (omega arith)

pub returns : goal.returns
unfolding limbs_of
returns c =
    let a = c.args.out.now in
    let n = c.args.n in
    put-more (pos n) a _ 2 0
    (put-more (pos n) a _ 1 (n / 4294967296)
    (put-more (pos n) a a 0 (n % 4294967296) refl (omega (arith, limb-natural n 0)) (omega arith))
    (omega (arith, limb-natural n 1)) (omega arith))
    (limb-above n 2 (omega arith)) (omega arith)
