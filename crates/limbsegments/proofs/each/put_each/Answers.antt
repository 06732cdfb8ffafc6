-- `limbsegments::each::put_each` meets its contract, turn by turn. Assumes nothing.
use Prim.Native.Nat.{zero-le}
use native.Mathlib.Omega.{arith}
use Rattle.outcomes.proofs.PutsLaws.{puts-more}
use Rattle.limbsegments.proofs.each.put_each.Goals as goal

pub loop-j-preserved : goal.loop-j-preserved
loop-j-preserved g c =
    λ f p.
    let w = c.loop-j.invariant f p in
    let size = w.size in
    puts-more _ w (p c.loop-j.j _ (omega arith) c.limb_at.ensures) zero-le (omega arith)
