-- `fltext::limbs::multiply_add` meets its contract, limb by limb. Assumes nothing.
use Prim.Native.Nat.{◌+◌, ◌*◌, ◌^◌, ◌<◌}
use native.Mathlib.Omega.{arith}
use borrow.Author.Rules.{rules}
use mathlib.Core.Path.{ap}
use lib.ListN.{length, get_or}
use Rattle.fltext.proofs.LimbLaws.{scaled-none, product_lt, scaled-more, scaled-all}
use Rattle.fltext.proofs.limbs.multiply_add.Goals as goal
use Rattle.fltext.proofs.limbs.multiply_add.Goals.{After-from, In-loop-limb}

pub loop-limb-init : goal.loop-limb-init
loop-limb-init c = scaled-none _ _ _ c.requires.b_bound.1

in-now : (c : In-loop-limb) → c.loop-limb.limb-index < length c.loop-limb.x
in-now c = omega (arith, c.loop-limb.invariant.size)

limb-lt : (c : After-from) → let l = c.loop-limb in get_or l.x l.limb-index 0 < 2 ^ 32
limb-lt c = search rules

-- the product and the carry
total-lt : (c : After-from) → let l = c.loop-limb in
    c.from.result * c.args.b + l.carry < 2 ^ 32 * 2 ^ 32
total-lt c =
    let l = c.loop-limb in
    product_lt (omega (arith, c.from.ensures, limb-lt c)) c.requires.b_bound.0 l.invariant.small

pub loop-limb-preserved : goal.loop-limb-preserved
loop-limb-preserved c =
    let l = c.loop-limb in
    let b = c.args.b in
    scaled-more _ l.invariant (omega arith) (ap (λ n. n * b + l.carry) c.from.ensures) (limb-lt c) c.requires.b_bound.0

pub returns : goal.returns
returns c = scaled-all c.loop-limb.invariant (omega arith) c.requires.c_bound

pub bounds-x-limb-index : goal.bounds-x-limb-index
bounds-x-limb-index c = in-now (goal.at.bounds-x-limb-index c).In-loop-limb

pub overflow_mul-t : goal.overflow_mul-t
overflow_mul-t c = omega (arith, total-lt c)

pub overflow_add-t : goal.overflow_add-t
overflow_add-t c = omega (arith, total-lt c)

pub shape_of-x : goal.shape_of-x
shape_of-x c = c.loop-limb.invariant.size
