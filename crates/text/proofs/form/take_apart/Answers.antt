-- `text::form::take_apart` meets its contract. Assumes nothing.
use Rattle.text.proofs.ReadingParts.{hash-is}
use borrow.Author.Tests.{eq-eqb, ne_eqb}
use mathlib.Core.Path.{◌∙◌}
use Rattle.text.proofs.form.take_apart.Goals as goal

pub after_hash-requires : goal.after_hash-requires
after_hash-requires c = hash-is _ c.byte_at.ensures ∙ eq-eqb _ 35 c.if-byte_at-eq35.true

pub without_hash-requires : goal.without_hash-requires
without_hash-requires c = hash-is _ c.byte_at.ensures ∙ ne_eqb _ 35 c.if-byte_at-eq35.false
