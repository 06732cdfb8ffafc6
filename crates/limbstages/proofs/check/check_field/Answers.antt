-- `limbstages::check::check_field` meets its contract. Assumes nothing.
use mathlib.Core.Path.{sym, ◌∙◌}
use Rattle.words.proofs.WordLaws.{back}
use Rattle.limbstages.proofs.StageLaws.{operands-ok}
use Rattle.limbstages.proofs.check.check_field.Goals as goal

pub returns : goal.returns
returns c =
    let f = c.ranges in
    (rw (back f.start, back f.end) at c.field.ensures) ∙ sym (operands-ok _ _ _ _ c.in_ok-check_operands.ensures).1
