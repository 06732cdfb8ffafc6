-- `text::form::after_hash` meets its contract. Assumes nothing.
use Rattle.text.proofs.ReadingParts.{parts-hash}
use Rattle.text.proofs.form.after_hash.Goals as goal

pub returns : goal.returns
returns c =
    parts-hash _ c.requires c.byte_at-letter.ensures c.byte_at-sign.ensures c.letter_base.ensures c.after_sign.ensures.value
