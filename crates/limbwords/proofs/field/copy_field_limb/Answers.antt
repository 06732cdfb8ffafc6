-- `limbwords::field::copy_field_limb` meets its contract. Assumes nothing.
use Rattle.limbwords.proofs.FieldLimbs.{copy_bit_field-limb}
use Rattle.limbwords.proofs.field.copy_field_limb.Goals as goal

pub returns : goal.returns
returns c =
    copy_bit_field-limb _
    (record { fits = c.lay.type_inv; outside = c.limb.result; same = c.limb.ensures; bits = c.lay.ensures })
    c.window_below.ensures
