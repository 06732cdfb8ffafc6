-- `fold::record::Open::net_count` meets its contract. Assumes nothing.
use native.Mathlib.Omega.{arith}
use native.Mathlib.Nat.{mul-le-mul}
use Prim.Native.Nat.{ℕ, ◌*◌, ◌%◌, ◌≤◌}
use mathlib.Core.Path.{ap₂, ◌∙◌}
use mathlib.Core.Bool.{cond}
use lib.Dec.{eqb}
use Rattle.bits.proofs.RotationCounts.{reduced-le}
use Rattle.fxtable.proofs.CallLaws.{width-bounds}
use Rattle.fold.specs.Calls.{net_count}
use Rattle.fold.proofs.OpenLaws.{open-width, open-field}
use Rattle.fold.proofs.CountLaws.{reduced-twice}
use Rattle.fold.proofs.record.Open.net_count.Goals as goal

pub overflow_mul-count : goal.overflow_mul-count
overflow_mul-count c =
    let z = c.size-size in
    let o = open-field c.args.self.fold c.args.self.accepted in
    let w = width-bounds c.args.self.fold.width (open-width c.args.self.fold c.args.self.accepted) in
    let n : c.count.result ≤ 63 = omega (arith, o.inside, o.below, w) in
    let r : c.reduced.result ≤ 63 = omega (arith, reduced-le c.args.length z.result c.reduced.ensures, z.ensures, o.below, w) in
    record { fits = omega (arith, mul-le-mul n r) }

pub returns : goal.returns
unfolding net_count
returns c =
    let z = c.size-size in
    let n = c.args.length in
    reduced-twice c.count.result n z.result c.reduced.ensures c.reduced-2.ensures
    ∙ ap₂ (λ (m size : ℕ). cond (eqb size 0) 0 (m * n % size)) c.count.ensures z.ensures
