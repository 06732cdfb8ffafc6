-- `fxarith::carry::parts` meets its contract. Assumes nothing.
use native.Mathlib.Omega.{arith}
use mathlib.Core.Path.{◌∙◌}
use Rattle.words.proofs.WordLaws.{back}
use Rattle.fxtable.proofs.CallLaws.{width-bounds, done-cong}
use Rattle.fxarith.proofs.CarryLaws.{held_low, held_high}
use Rattle.fxarith.proofs.carry.parts.Goals as goal

pub low_part-requires : goal.low_part-requires
low_part-requires c = let b = width-bounds c.args.width c.requires in omega arith

pub high_part-requires : goal.high_part-requires
high_part-requires c = let b = width-bounds c.args.width c.requires in omega arith

pub returns : goal.returns
returns c x held =
    c.done.ensures
    ∙ done-cong
    (back (record { sfits = c.low_part.type_inv }) ∙ c.low_part.ensures ∙ held_low c.args.width x c.requires held)
    (back (record { sfits = c.high_part.type_inv }) ∙ c.high_part.ensures ∙ held_high c.args.width x c.requires held)
