-- `widewords::wide::product` meets its contract. Assumes nothing.
use Rattle.std.proofs.Common.{◌*ℤ◌, ◌∙◌, ap₂}
use mathlib.Core.Bool.{xor}
use Rattle.words.proofs.SignedLaws.{with_sign-mul, rejoin}
use Rattle.widewords.proofs.wide.product.Goals as goal

pub returns : goal.returns
unfolding xor
returns c =
    c.multiply.ensures
    ∙ with_sign-mul _ _ _ _
    ∙ ap₂ ◌*ℤ◌
    (rejoin c.ranges.x c.is_negative.ensures c.absolute.ensures)
    (rejoin c.ranges.y c.is_negative-2.ensures c.absolute-2.ensures)
