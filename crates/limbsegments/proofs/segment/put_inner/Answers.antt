-- `limbsegments::segment::put_inner` meets its contract: two limbs have the bits of a window, and one from bit 0 is a limb. Assumes nothing.
use Rattle.std.proofs.Common.{rules}
use native.Mathlib.Omega.{arith}
use Prim.Native.Nat.{◌+◌, ◌*◌, ◌/◌, ◌%◌, ◌^◌}
use mathlib.Core.Path.{◌≡◌, ap, ◌∙◌}
use lib.ListN.{get_or}
use Rattle.limbwords.specs.Value.{value}
use Rattle.limbwords.specs.Results.{bits_from}
use Rattle.limbwords.proofs.LimbLaws.{limb-value, window-value}
use Rattle.limbsegments.proofs.segment.put_inner.Goals as goal

pub returns-then-k-eq0 : goal.returns-then-k-eq0
returns-then-k-eq0 c =
    c.put_each.ensures _ (λ j v h p.
    let x = c.args.x.now in
    let s = c.args.i + j in
    let zero = c.if-k-eq0.true in
    let at : 32 * s ≡ 32 * c.args.i + c.args.k + 32 * j = omega arith in
    let is : v ≡ get_or x s 0 = search rules in
    is ∙ limb-value x s (λ n. (c.type_inv.x n).fits) (omega arith) ∙ ap (bits_from (value x)) at)

pub returns-else-k-eq0 : goal.returns-else-k-eq0
returns-else-k-eq0 c =
    c.put_each-else-k-eq0.ensures _ (λ j v h p.
    let x = c.args.x.now in
    let s = c.args.i + j in
    let at : 32 * s + c.args.k ≡ 32 * c.args.i + c.args.k + 32 * j = omega arith in
    let is : v ≡ (get_or x (s + 1) 0 * 2 ^ 32 + get_or x s 0) / 2 ^ c.args.k % 2 ^ 32 = search rules in
    is ∙ window-value x s c.args.k (λ n. (c.type_inv.x n).fits) (omega arith) (omega arith) ∙ ap (bits_from (value x)) at)
