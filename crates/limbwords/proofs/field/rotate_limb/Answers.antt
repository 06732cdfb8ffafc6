-- `limbwords::field::rotate_limb` meets its contract. Assumes nothing.
use native.Mathlib.Omega.{arith}
use Rattle.limbwords.proofs.FieldLimbs.{rotate_bit_field-limb}
use Rattle.limbwords.proofs.field.rotate_limb.Goals as goal

pub returns : goal.returns
returns c =
    rotate_bit_field-limb (omega arith)
    (record { fits = c.lay.type_inv; outside = c.limb.result; same = c.limb.ensures; bits = c.lay.ensures })
    c.splice_at.ensures
    c.window-upper.ensures
    c.window_below-others.ensures
