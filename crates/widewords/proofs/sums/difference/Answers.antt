-- `widewords::sums::difference` meets its contract. Assumes nothing.
use Rattle.std.proofs.Common.{◌∙◌}
use Rattle.words.proofs.WordLaws.{back}
use Rattle.widewords.proofs.DoubleLaws.{difference-modulo, modulo}
use Rattle.widewords.proofs.sums.difference.Goals as goal

pub returns : goal.returns
returns c =
    c.subtract-2.ensures
    ∙ difference-modulo _ _
    (c.subtract.ensures ∙ difference-modulo _ _ (c.of_word.ensures ∙ modulo (back c.ranges.x)) (c.of_word-2.ensures ∙ modulo (back c.ranges.y)))
    (c.of_word-3.ensures ∙ modulo (back c.ranges.z))
