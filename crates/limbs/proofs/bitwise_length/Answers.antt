-- `limbs::bitwise_length` meets its contract. Assumes nothing.
use native.Mathlib.Omega.{arith}
use lib.IntN.{pos}
use mir.Syntax.{w64}
use mir.ValLaws.{to_z_pos}
use Rattle.limbwords.proofs.ValueLaws.{value-length}
use mathlib.Core.Path.{sym, ap, ◌∙◌}
use Rattle.outcomes.specs.Outcome.{done}
use Rattle.outcomes.specs.Refusal.{outcome_of}
use Rattle.limbs.specs.Operations.{length_outcome}
use Rattle.limbstages.proofs.StageLaws.{operand-ok, operand_lengths, operand-count}
use Rattle.limbs.proofs.bitwise_length.Goals as goal
use Rattle.limbs.proofs.bitwise_length.Goals.{After-bit_length}

pub bit_length-requires-clause-x_len : goal.bit_length-requires-clause-x_len
bit_length-requires-clause-x_len c = operand-count _ (operand-ok _ (done (tt {0})) _ c.in_ok-check_operand.ensures).0

pub overflow_cast-result : goal.overflow_cast-result
overflow_cast-result c =
    let (positive, most) = operand_lengths _ (operand-ok _ (done (tt {0})) _ c.in_ok-check_operand.ensures).0 in
    record { sfits = omega (arith, c.bit_length.ensures, value-length c.args.x.now positive) }

pub returns : goal.returns
unfolding length_outcome outcome_of
returns c =
    ap done (to_z_pos w64 _ (overflow_cast-result (goal.at.returns c).After-bit_length).sfits ∙ ap pos c.bit_length.ensures)
    ∙ sym (operand-ok _ _ _ c.in_ok-check_operand.ensures).1
