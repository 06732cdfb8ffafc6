-- `rulereader::read_rule` meets its contract. Assumes nothing.
use mathlib.Core.Path.{sym, ◌∙◌}
use Rattle.rulereader.proofs.Exits.{err_of}
use Rattle.rulereader.proofs.FormLaws.{same_width, too_long, width_read, width-fails, width-offends}
use Rattle.rulereader.proofs.read_rule.Goals as goal

pub returns-then-s-gt-LONGEST-clause-rule_read : goal.returns-then-s-gt-LONGEST-clause-rule_read
returns-then-s-gt-LONGEST-clause-rule_read c = too_long c.args.s.now c.if-s-gt-LONGEST.true

pub returns-in_err-width-clause-rule_read : goal.returns-in_err-width-clause-rule_read
returns-in_err-width-clause-rule_read c = rw (err_of _ _ c.from_residual.ensures.1) (width-offends c.args.s.now c.if-s-gt-LONGEST.false _ c.in_err-width.ensures)

pub returns-in_err-width-clause-stored_width : goal.returns-in_err-width-clause-stored_width
returns-in_err-width-clause-stored_width c = rw (err_of _ _ c.from_residual.ensures.1) tt

pub returns-then-is_stored_width-clause-rule_read : goal.returns-then-is_stored_width-clause-rule_read
returns-then-is_stored_width-clause-rule_read c =
    width_read c.args.s.now c.if-s-gt-LONGEST.false _ c.in_ok-width.ensures (sym c.is_stored_width.ensures ∙ c.if-is_stored_width.true) _ c.read_last_form.ensures

pub returns-then-is_stored_width-clause-stored_width : goal.returns-then-is_stored_width-clause-stored_width
returns-then-is_stored_width-clause-stored_width c =
    same_width c.args.s.now _ 1 _ (sym c.is_stored_width.ensures ∙ c.if-is_stored_width.true) c.read_last_form.ensures

pub returns-else-is_stored_width-clause-rule_read : goal.returns-else-is_stored_width-clause-rule_read
returns-else-is_stored_width-clause-rule_read c =
    width-fails c.args.s.now c.if-s-gt-LONGEST.false _ c.in_ok-width.ensures (sym c.is_stored_width.ensures ∙ c.if-is_stored_width.false)
