-- `words::sign::from_magnitude` meets its contract. Assumes nothing.
use mathlib.Core.Path.{sym, ap, ◌∙◌}
use mathlib.Core.Bool.{Bool}
use lib.IntN.{pos}
use mir.Syntax.{w64}
use mir.ValLaws.{to_z_pos}
use Rattle.words.specs.Sign.{of_magnitude}
use Rattle.bits.specs.Logical.{bitwise_not}
use Rattle.words.proofs.WordLaws.{not-word}
use Rattle.words.proofs.sign.from_magnitude.Goals as goal

pub returns-then-negative : goal.returns-then-negative
unfolding of_magnitude bitwise_not
returns-then-negative c =
    not-word {x = pos c.args.m} (record { sfits = c.requires })
    ∙ sym (ap (λ (b : Bool). of_magnitude b c.args.m) c.if-negative.true)

pub returns-else-negative : goal.returns-else-negative
unfolding of_magnitude
returns-else-negative c =
    to_z_pos w64 c.args.m c.requires ∙ sym (ap (λ (b : Bool). of_magnitude b c.args.m) c.if-negative.false)
