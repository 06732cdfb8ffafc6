-- `limbmeasure::shortest_length` meets its contract: the length of the limbs is enough. Assumes nothing.
use Rattle.std.proofs.Common.{rules}
use mathlib.Core.Path.{◌≡◌, ◌∙◌}
use lib.ListN.{get_or}
use Rattle.limbwords.proofs.ValueLaws.{value-length}
use Rattle.limbwords.proofs.LimbLaws.{limb-value}
use Rattle.limbmeasure.proofs.shortest_length.Goals as goal

pub returns : goal.returns
returns c =
    let x = c.args.x.now in
    c.measure_by.ensures _ (λ j v h p.
    let is : v ≡ get_or x j 0 = search rules in
    is ∙ limb-value x j (λ i. (c.type_inv.x i).fits) h) (value-length x c.requires)
