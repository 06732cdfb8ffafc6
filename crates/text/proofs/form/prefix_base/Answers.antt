-- `text::form::prefix_base` meets its contract. Assumes nothing.
use mathlib.Core.Path.{sym, ◌∙◌}
use Rattle.text.proofs.ReadingParts.{prefix_base-zero, prefix_base-ten}
use Rattle.text.proofs.form.prefix_base.Goals as goal

pub returns-then-byte_at-ne48 : goal.returns-then-byte_at-ne48
returns-then-byte_at-ne48 c = sym (prefix_base-ten _ _ c.byte_at.ensures c.if-byte_at-ne48.true)

pub returns : goal.returns
returns c =
    c.zero_base.ensures ∙ sym (prefix_base-zero _ _ c.byte_at.ensures c.if-byte_at-ne48.false c.byte_at-2.ensures)
