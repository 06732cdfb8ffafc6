-- `widewords::double::of_word` meets its contract. Assumes nothing.
use Rattle.std.proofs.Common.{sym, ap, ◌∙◌}
use lib.Signed.{mag}
use Rattle.words.proofs.WordLaws.{back, is_negative-word}
use Rattle.widewords.specs.Double.{double_word}
use Rattle.widewords.proofs.DoubleLaws.{word-negative, word-nonnegative}
use Rattle.widewords.proofs.double.of_word.Goals as goal

pub returns-then-x-lt0 : goal.returns-then-x-lt0
unfolding double_word
returns-then-x-lt0 c =
    word-negative c.args.x (sym (is_negative-word c.ranges.x) ∙ c.if-x-lt0.true) (c.magnitude-m.ensures ∙ ap mag (back c.ranges.x)) c.ranges.x.sfits

pub returns-else-x-lt0 : goal.returns-else-x-lt0
unfolding double_word
returns-else-x-lt0 c =
    word-nonnegative c.args.x (sym (is_negative-word c.ranges.x) ∙ c.if-x-lt0.false) (c.magnitude-m.ensures ∙ ap mag (back c.ranges.x)) c.ranges.x.sfits
