-- `words::count::bit_count` meets its contract. Assumes nothing.
use mathlib.Core.Path.{ap, ap₂, ◌∙◌}
use native.Mathlib.Omega.{arith}
use Prim.Native.Nat.{ℕ}
use mathlib.Core.Bool.{Bool}
use lib.Count as digits
use lib.Count.{ones-le}
use lib.Signed.{mag}
use Rattle.bits.specs.Testbit.{is_negative}
use Rattle.words.specs.Sign.{of_magnitude}
use Rattle.words.proofs.WordLaws.{back}
use Rattle.words.proofs.CountWords.{count-bit_count}
use Rattle.words.proofs.count.bit_count.Goals as goal

pub from_magnitude-requires : goal.from_magnitude-requires
from_magnitude-requires c = omega (arith, ones-le 64 c.magnitude.result c.magnitude.type_inv)

pub returns : goal.returns
returns c =
    let a = c.before.before.before in
    back (record { sfits = c.from_magnitude.type_inv })
    ∙ c.from_magnitude.ensures
    ∙ ap (of_magnitude c.is_negative.result) c.from-ones.ensures
    ∙ ap₂ (λ (b : Bool) (m : ℕ). of_magnitude b (digits.ones m))
    (c.is_negative.ensures ∙ ap is_negative (back a.ranges.x))
    (c.magnitude.ensures ∙ ap mag (back a.ranges.x))
    ∙ count-bit_count a.args.x
