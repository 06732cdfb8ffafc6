-- `limbstages::check::check_rotation` meets its contract. Assumes nothing.
use mathlib.Core.Path.{refl, sym, ap, ◌∙◌}
use Rattle.words.proofs.WordLaws.{back}
use Rattle.outcomes.specs.Outcome.{map_done}
use Rattle.outcomes.specs.Refusal.{outcome_of}
use Rattle.limbstages.specs.Inner.{rotation_of}
use Rattle.limbstages.proofs.StageLaws.{exited, operand-ok, field-ok, field-err, natural-ok, natural-err}
use Rattle.limbstages.proofs.check.check_rotation.Goals as goal

pub returns-in_err-field : goal.returns-in_err-field
unfolding rotation_of map_done outcome_of
returns-in_err-field c =
    let f = c.ranges in
    ap rotation_of (exited _ c.from_residual-in_err-field.ensures.1)
    ∙ sym ((operand-ok _ _ _ c.in_ok-check_operand.ensures).1 ∙ field-err _ _ _ _ (rw (back f.start, back f.end) at c.in_err-field.ensures))

pub returns-in_err-natural : goal.returns-in_err-natural
unfolding rotation_of map_done outcome_of
returns-in_err-natural c =
    let f = c.ranges in
    ap rotation_of (exited _ c.from_residual-in_err-natural.ensures.1)
    ∙ sym ((operand-ok _ _ _ c.in_ok-check_operand.ensures).1
    ∙ (field-ok _ _ _ _ (rw (back f.start, back f.end) at c.in_ok-field.ensures)).1
    ∙ natural-err _ _ _ (rw (back f.count) at c.in_err-natural.ensures))

pub returns : goal.returns
unfolding rotation_of map_done outcome_of
returns c =
    let f = c.ranges in
    let a = field-ok _ _ _ _ (rw (back f.start, back f.end) at c.in_ok-field.ensures) in
    let n = natural-ok _ _ _ (rw (back f.count) at c.in_ok-natural.ensures) in
    sym ((operand-ok _ _ _ c.in_ok-check_operand.ensures).1 ∙ a.1 ∙ n.1 ∙ rw (a.0.0, a.0.1, n.0) refl)
