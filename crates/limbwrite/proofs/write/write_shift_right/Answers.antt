-- `limbwrite::write::write_shift_right` meets its contract. Assumes nothing.
use native.Mathlib.Omega.{arith}
use Prim.Native.Nat.{◌+◌, ◌*◌}
use mathlib.Core.Path.{◌≡◌, ap, ◌∙◌}
use Rattle.limbwords.specs.Value.{value}
use Rattle.limbwords.specs.Results.{bits_from}
use Rattle.limbwords.proofs.WindowLaws.{bits_from-shift_right}
use Rattle.outcomes.proofs.PutsLaws.{puts-as}
use Rattle.limbwrite.proofs.write.write_shift_right.Goals as goal

pub returns : goal.returns
returns c =
    puts-as (λ j h k. let at : c.args.by + 32 * j ≡ 32 * j + c.args.by = omega arith in
    ap (bits_from (value c.args.x.now)) at ∙ bits_from-shift_right (value c.args.x.now) c.args.by (32 * j))
    c.put_windows.ensures
