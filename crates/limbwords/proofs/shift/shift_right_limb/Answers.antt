-- `limbwords::shift::shift_right_limb` meets its contract. Assumes nothing.
use Prim.Native.Nat.{◌*◌}
use mathlib.Core.Path.{◌∙◌}
use Rattle.limbwords.specs.Value.{value}
use Rattle.limbwords.proofs.WindowLaws.{bits_from-shift_right}
use Rattle.limbwords.proofs.shift.shift_right_limb.Goals as goal

pub returns : goal.returns
returns c =
    let a = c.args in
    c.window.ensures ∙ bits_from-shift_right (value a.x.now) a.by (32 * a.j)
