-- `limbwords::signed::word` meets its contract. Assumes nothing.
use Prim.Native.Nat.{◌+◌, ◌*◌, ◌^◌, ◌<◌}
use native.Mathlib.Omega.{arith}
use mathlib.Core.Path.{◌≡◌, ap₂, ◌∙◌}
use lib.Signed.{mag}
use mir.Syntax.{w64}
use mir.ValLaws.{to_z-of_z}
use Rattle.words.specs.Sign.{of_magnitude}
use Rattle.bits.proofs.LengthLaws.{mag-lt}
use Rattle.words.proofs.MagnitudeLaws.{of_magnitude-mag}
use Rattle.limbwords.specs.Value.{value}
use Rattle.limbwords.proofs.SignLimbs.{operand-sign, two-limbs}
use Rattle.limbwords.proofs.signed.word.Goals as goal
use Rattle.limbwords.proofs.signed.word.Goals.{After-from-high}

-- the two limbs are the magnitude
joined : (c : After-from-high) → c.from-high.result * 4294967296 + c.from-low.result ≡ mag (value c.args.x.now)
joined c =
    rw (c.from-high.ensures, c.from-low.ensures)
    (two-limbs _ _ c.padding-sign.ensures c.requires.0 _ _ c.limb.ensures c.limb-2.ensures c.requires.1)

below : (c : After-from-high) → mag (value c.args.x.now) < 2 ^ 63
below c = mag-lt (value c.args.x.now) 63 (omega (arith, c.requires.1))

pub from_magnitude-requires : goal.from_magnitude-requires
from_magnitude-requires c = omega (arith, joined c, below c)

pub returns : goal.returns
returns c =
    to_z-of_z w64 _ (record { sfits = c.from_magnitude.type_inv })
    ∙ c.from_magnitude.ensures
    ∙ ap₂ of_magnitude (operand-sign _ _ c.padding-sign.ensures c.requires.0) (joined (goal.at.returns c).After-from-high)
    ∙ of_magnitude-mag (value c.args.x.now)
