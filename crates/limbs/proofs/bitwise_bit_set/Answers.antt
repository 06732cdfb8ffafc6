-- `limbs::bitwise_bit_set` meets its contract. Assumes nothing.
use native.Mathlib.Omega.{arith}
use mathlib.Core.Path.{sym, ap, ◌∙◌}
use mathlib.Core.Bool.{cond}
use lib.IntN.{ℤ, pos, nat_abs}
use lib.Signed.{mag}
use Rattle.bits.specs.Testbit.{testbit}
use Rattle.words.proofs.WordLaws.{back}
use Rattle.outcomes.specs.Outcome.{done}
use Rattle.outcomes.specs.Refusal.{outcome_of}
use Rattle.limbwords.specs.Value.{value}
use Rattle.limbs.specs.Operations.{bit_set_outcome}
use Rattle.limbstages.proofs.StageLaws.{operand-length}
use Rattle.limbs.proofs.CheckLaws.{natural-legal}
use Rattle.limbs.proofs.NumberLaws.{bit-from}
use Rattle.limbs.proofs.bitwise_bit_set.Goals as goal

pub window-requires : goal.window-requires
window-requires c =
    let l = natural-legal c.args.x.now c.ranges.position c.check_natural.ensures c.in_ok-at.was in
    (operand-length _ l.0, omega (arith, ap mag l.1.0, c.ranges.position.sfits))

pub returns : goal.returns
unfolding bit_set_outcome outcome_of
returns c =
    let l = natural-legal c.args.x.now c.ranges.position c.check_natural.ensures c.in_ok-at.was in
    ap done (back (record { sfits = c.from.type_inv }) ∙ c.from.ensures ∙ bit-from (value c.args.x.now) _ _ c.window.ensures)
    ∙ sym (l.1.1 _ ∙ ap (λ (k : ℤ). done (cond (testbit (value c.args.x.now) (nat_abs k)) (pos 1) (pos 0))) l.1.0)
