-- `limbwords::field::field_limb` meets its contract. Assumes nothing.
use Rattle.limbwords.proofs.FieldLimbs.{bit_field-limb}
use Rattle.limbwords.proofs.field.field_limb.Goals as goal

pub returns : goal.returns
returns c = bit_field-limb _ _ _ _ c.splice_at.type_inv c.window.ensures c.splice_at.ensures
