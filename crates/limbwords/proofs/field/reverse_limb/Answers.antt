-- `limbwords::field::reverse_limb` meets its contract. Assumes nothing.
use Rattle.limbwords.proofs.FieldLimbs.{reverse_bit_field-limb}
use Rattle.limbwords.proofs.field.reverse_limb.Goals as goal

pub returns : goal.returns
returns c =
    reverse_bit_field-limb
    (record { fits = c.lay.type_inv; outside = c.limb.result; same = c.limb.ensures; bits = c.lay.ensures })
    c.mirror-mirrored.ensures
    c.window_below.ensures
