-- `text::form::without_hash` meets its contract. Assumes nothing.
use borrow.Author.Tests.{eq-eqb, ne_eqb}
use Rattle.text.proofs.ReadingParts.{parts-plain}
use Rattle.text.proofs.form.without_hash.Goals as goal

pub returns-then-base-eq10 : goal.returns-then-base-eq10
returns-then-base-eq10 c =
    parts-plain _ c.requires c.byte_at-negative.ensures c.after_sign-after.ensures.value c.prefix_base-base.ensures (eq-eqb _ 10 c.if-base-eq10.true)

pub returns : goal.returns
returns c =
    parts-plain _ c.requires c.byte_at-negative.ensures c.after_sign-after.ensures.value c.prefix_base-base.ensures (ne_eqb _ 10 c.if-base-eq10.false)
