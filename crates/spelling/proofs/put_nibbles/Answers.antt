-- `spelling::put_nibbles` meets its contract, from the last digit to the first. Assumes nothing.
use native.Mathlib.Omega.{arith}
use mathlib.Core.Path.{ap, ◌∙◌}
use Rattle.spelling.specs.Spellings.{glyph}
use Rattle.spelling.proofs.DigitLaws.{put-none, put-more, put_all}
use Rattle.spelling.proofs.put_nibbles.Goals as goal

pub loop-i-init : goal.loop-i-init
loop-i-init c = put-none _ _ _

pub loop-i-preserved : goal.loop-i-preserved
loop-i-preserved c =
    put-more _ c.loop-i.invariant (omega arith) (omega arith) (c.glyph.ensures ∙ ap glyph c.nibble.ensures)

pub shape_of-out : goal.shape_of-out
shape_of-out c = c.loop-i.invariant.size

pub returns : goal.returns
returns c = put_all c.loop-i.invariant (omega arith)
