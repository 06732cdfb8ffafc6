-- `fxbits::shifts::right` meets its contract. Assumes nothing.
use mathlib.Core.Path.{◌≡◌, ap, ap₂, ◌∙◌}
use native.Mathlib.Omega.{arith}
use Prim.Native.Nat.{ℕ, ◌/◌, ◌^◌}
use lib.Pow.{shr_le}
use lib.Signed.{mag}
use Rattle.bits.specs.Testbit.{is_negative}
use Rattle.words.specs.Sign.{of_magnitude}
use Rattle.words.proofs.WordLaws.{back}
use Rattle.fxbits.proofs.ShiftLaws.{right-magnitude}
use Rattle.fxbits.proofs.shifts.right.Goals as goal

pub from_magnitude-requires : goal.from_magnitude-requires
from_magnitude-requires c =
    let e : c.magnitude.result ≡ mag c.args.x = c.magnitude.ensures ∙ ap mag (back c.ranges.x) in
    let h = c.ranges.x.sfits in
    let l = shr_le c.magnitude.result c.args.k in
    omega arith

pub returns : goal.returns
returns c =
    back (record { sfits = c.from_magnitude.type_inv })
    ∙ c.from_magnitude.ensures
    ∙ ap₂ of_magnitude
    (c.is_negative.ensures ∙ ap is_negative (back c.ranges.x))
    (ap (λ (m : ℕ). m / 2 ^ c.args.k) (c.magnitude.ensures ∙ ap mag (back c.ranges.x)))
    ∙ right-magnitude c.args.x c.args.k
