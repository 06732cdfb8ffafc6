-- `widewords::sums::product_and` meets its contract. Assumes nothing.
use Rattle.std.proofs.Common.{◌*ℤ◌, ◌∙◌, ap₂}
use Rattle.words.proofs.WordLaws.{back}
use Rattle.widewords.proofs.DoubleLaws.{sum-modulo, modulo}
use Rattle.widewords.proofs.sums.product_and.Goals as goal

pub returns : goal.returns
returns c =
    c.add.ensures
    ∙ sum-modulo _ _
    (c.of_wide.ensures ∙ modulo (c.product.ensures ∙ ap₂ ◌*ℤ◌ (back c.ranges.x) (back c.ranges.y)))
    (c.of_word.ensures ∙ modulo (back c.ranges.z))
