-- `fltext::limbs::capped` meets its contract. The invariant: n is the number of the limbs from j on. Assumes nothing.
use Prim.Native.Nat.{ℕ, ◌+◌, ◌-◌, ◌*◌, ◌^◌, ◌<◌}
use native.Mathlib.Omega.{arith}
use mathlib.Core.Path.{sym, subst}
use Rattle.fltext.proofs.LimbLaws.{Summed, summed-none, summed-more, summed-beyond, summed-all}
use Rattle.fltext.proofs.limbs.capped.Goals as goal
use Rattle.fltext.proofs.limbs.capped.Goals.{After-from}

pub loop-j-init : goal.loop-j-init
loop-j-init c = summed-none _

pub returns-then-n-ge2097152 : goal.returns-then-n-ge2097152
returns-then-n-ge2097152 c = let l = c.loop-j in sym (summed-beyond (l.j - 1) l.invariant (omega arith) c.if-n-ge2097152.true)

limb-lt : (c : After-from) → c.from.result < 2 ^ 32
limb-lt c = omega (arith, c.from.ensures, (c.type_inv.x (c.loop-j.j - 1)).fits)

pub loop-j-preserved : goal.loop-j-preserved
loop-j-preserved c =
    let l = c.loop-j in
    let e = c.from.ensures in
    subst (λ (v : ℕ). Summed c.args.x.now (l.n * 2 ^ 32 + v) (l.j - 1)) (sym e)
    (summed-more (l.j - 1) l.invariant (omega arith) (omega arith) (c.type_inv.x (l.j - 1)).fits)

pub returns : goal.returns
returns c = summed-all c.loop-j.invariant (omega arith)

pub offset_bounds-x-j : goal.offset_bounds-x-j
offset_bounds-x-j c = omega (arith, c.loop-j.invariant.within)

pub bounds-x-j : goal.bounds-x-j
bounds-x-j c = omega (arith, c.loop-j.invariant.within)

pub overflow_add-n : goal.overflow_add-n
overflow_add-n c = omega (arith, limb-lt c)
