-- `fxarith::arithmetic::without_carry` meets its contract. Assumes nothing.
use native.Mathlib.Omega.{arith}
use mathlib.Core.Path.{refl, sym, ◌∙◌}
use lib.IntN.{pos}
use Rattle.words.proofs.WordLaws.{back}
use Rattle.outcomes.specs.Refusal.{code_of}
use Rattle.fxtable.proofs.CallLaws.{width-bounds, code-positive, refused-as, done-cong, checked-fits, checked-large}
use Rattle.fxarith.proofs.CarryLaws.{held_low, held_high, carried, not_carried}
use Rattle.fxarith.proofs.arithmetic.without_carry.Goals as goal

pub high_part-requires : goal.high_part-requires
high_part-requires c = let b = width-bounds c.args.width c.requires in omega arith

pub returns-then-high_part-ne0 : goal.returns-then-high_part-ne0
returns-then-high_part-ne0 c x held =
    refused-as _ c.refuse.ensures
    ∙ sym (checked-large (code_of c.args.overflow) c.args.width x (pos 0) (code-positive c.args.overflow)
    (carried c.args.width x c.requires held c.high_part.result (c.high_part.ensures ∙ held_high c.args.width x c.requires held) c.if-high_part-ne0.true))

pub low_part-requires : goal.low_part-requires
low_part-requires c = let b = width-bounds c.args.width c.requires in omega arith

pub returns : goal.returns
returns c x held =
    let q = c.high_part.result in
    let small = not_carried c.args.width x c.requires held q (c.high_part.ensures ∙ held_high c.args.width x c.requires held) (record { sfits = c.high_part.type_inv }) c.if-high_part-ne0.false in
    c.done.ensures
    ∙ done-cong (back (record { sfits = c.low_part.type_inv }) ∙ c.low_part.ensures ∙ held_low c.args.width x c.requires held ∙ small.0) refl
    ∙ sym (checked-fits (code_of c.args.overflow) c.args.width x (pos 0) small.1)
