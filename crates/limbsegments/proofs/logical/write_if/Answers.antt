-- `limbsegments::logical::write_if` meets its contract: the limbs that all three operands have, and then the others. Assumes nothing.
use Rattle.std.proofs.Common.{rules, bit_and, bit_or}
use Rattle.std.proofs.lemmas.List.{places}
use Prim.Native.Nat.{◌*◌, ◌-◌, ◌<◌}
use native.Mathlib.Omega.{arith}
use mathlib.Core.Path.{◌≡◌, ◌∙◌}
use lib.ListN.{get_or}
use Rattle.limbwords.specs.Value.{value}
use Rattle.limbwords.proofs.LimbLaws.{limb-value}
use Rattle.limbwords.proofs.LogicalLaws.{bits_from-if}
use Rattle.limbsegments.proofs.Parts.{puts-two}
use Rattle.limbsegments.proofs.logical.write_if.Goals as goal

pub returns : goal.returns
returns c =
    let xs = c.args.x.now in
    let ys = c.args.y.now in
    let zs = c.args.z.now in
    let common = c.min-common.result in
    puts-two c.args.part.now common
    (c.put_each.ensures _ (λ j v h p.
    let below : j < common = search (rules, places) in
    let x = limb-value xs j (λ i. (c.type_inv.x i).fits) (omega arith) in
    let y = limb-value ys j (λ i. (c.type_inv.y i).fits) (omega arith) in
    let z = limb-value zs j (λ i. (c.type_inv.z i).fits) (omega arith) in
    let m = get_or xs j 0 in
    let is : v ≡ bit_or (bit_and m (get_or ys j 0)) (bit_and (4294967295 - m) (get_or zs j 0)) = search rules in
    is ∙ bits_from-if (value xs) (value ys) (value zs) (32 * j) x y z))
    (search (rules, places))
    (omega arith)
    (c.put_each-2.ensures _ (λ j v h p. search rules))
    (search (rules, places))
