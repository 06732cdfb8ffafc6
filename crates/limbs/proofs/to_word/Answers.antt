-- `limbs::to_word` meets its contract. Assumes nothing.
use native.Mathlib.Omega.{arith}
use Rattle.outcomes.specs.Refusal.{code_of}
use Rattle.outcomes.proofs.OutcomeLaws.{passed, failed}
use Rattle.limbs.proofs.NumberLaws.{fits_word, exceeds-word}
use mathlib.Core.Path.{sym, ap, ◌∙◌}
use Rattle.words.proofs.WordLaws.{back}
use Rattle.outcomes.specs.Outcome.{done}
use Rattle.outcomes.specs.Refusal.{outcome_of}
use Rattle.limbs.specs.Operations.{word_outcome}
use Rattle.limbstages.proofs.StageLaws.{operand-ok, operand-count}
use Rattle.limbs.proofs.to_word.Goals as goal

pub bit_length-requires-clause-x_len : goal.bit_length-requires-clause-x_len
bit_length-requires-clause-x_len c = operand-count _ (operand-ok _ (done (tt {0})) _ c.in_ok-check_operand.ensures).0

pub returns-then-bit_length-ge64 : goal.returns-then-bit_length-ge64
unfolding word_outcome outcome_of code_of
returns-then-bit_length-ge64 c =
    sym ((operand-ok _ _ _ c.in_ok-check_operand.ensures).1 ∙ failed _ _ (exceeds-word _ (omega (arith, c.bit_length.ensures))))

pub returns : goal.returns
unfolding word_outcome outcome_of
returns c =
    ap done (back (record { sfits = c.word.type_inv }) ∙ c.word.ensures)
    ∙ sym ((operand-ok _ _ _ c.in_ok-check_operand.ensures).1 ∙ passed _ _ (fits_word _ (omega (arith, c.bit_length.ensures))))
