-- `fltext::limbs::divide` meets its contract, limb by limb. Assumes nothing.
use Prim.Native.Nat.{◌+◌, ◌-◌, ◌*◌, ◌^◌, ◌<◌}
use native.Mathlib.Omega.{arith}
use borrow.Author.Rules.{rules}
use mathlib.Core.Path.{ap}
use lib.ListN.{length}
use Rattle.fltext.proofs.LimbLaws.{divided-none, partial_lt, divided-more, divided-quotient, divided-remainder}
use Rattle.fltext.proofs.limbs.divide.Goals as goal
use Rattle.fltext.proofs.limbs.divide.Goals.{After-from, In-loop-j}

pub loop-j-init : goal.loop-j-init
loop-j-init c = divided-none _ _ c.requires.0

in-now : (c : In-loop-j) → c.loop-j.j - 1 < length c.loop-j.x
in-now c = omega (arith, c.loop-j.invariant.size, c.loop-j.invariant.within)

limb-lt : (c : After-from) → c.from.result < 2 ^ 32
limb-lt c = rw c.from.ensures (search rules)

-- the remainder so far and the next limb
total-lt : (c : After-from) → c.loop-j.r * 2 ^ 32 + c.from.result < 2 ^ 64
total-lt c =
    let l = c.loop-j in
    omega (arith, l.invariant.small, c.requires.1, limb-lt c)

pub overflow_cast-x : goal.overflow_cast-x
overflow_cast-x c = record { fits = partial_lt c.loop-j.invariant.small (limb-lt c) }

pub loop-j-preserved : goal.loop-j-preserved
loop-j-preserved c =
    let l = c.loop-j in
    divided-more (l.j - 1) _ l.invariant (omega arith) (ap (λ n. l.r * 2 ^ 32 + n) c.from.ensures)

pub returns : goal.returns
returns c =
    let s = c.loop-j.invariant in
    record { value = divided-remainder s (omega arith); becomes = divided-quotient s (omega arith) }

pub overflow_mul-t : goal.overflow_mul-t
overflow_mul-t c = omega (arith, c.loop-j.invariant.small, c.requires.1)

pub offset_bounds-x-j : goal.offset_bounds-x-j
offset_bounds-x-j c = omega (arith, in-now c)

pub bounds-x-j : goal.bounds-x-j
bounds-x-j c = in-now (goal.at.bounds-x-j c).In-loop-j

pub overflow_add-t : goal.overflow_add-t
overflow_add-t c = omega (arith, total-lt c)

pub nonzero_div-x : goal.nonzero_div-x
nonzero_div-x c = omega (arith, c.loop-j.invariant.small)

pub offset_bounds-x-j-in-loop-j : goal.offset_bounds-x-j-in-loop-j
offset_bounds-x-j-in-loop-j c = omega (arith, in-now (goal.at.offset_bounds-x-j-in-loop-j c).In-loop-j)

pub bounds-x-j-in-loop-j : goal.bounds-x-j-in-loop-j
bounds-x-j-in-loop-j c = in-now (goal.at.bounds-x-j-in-loop-j c).In-loop-j

pub nonzero_rem-r : goal.nonzero_rem-r
nonzero_rem-r c = omega (arith, c.loop-j.invariant.small)

pub shape_of-x : goal.shape_of-x
shape_of-x c = c.loop-j.invariant.size
