-- `text::form::byte_at` meets its contract. Assumes nothing.
use mathlib.Core.Path.{refl, sym}
use lib.ListN.{get_or-eq_default}
use Rattle.text.specs.Numerals.{byte_at}
use Rattle.text.proofs.form.byte_at.Goals as goal

pub returns-then-i-text : goal.returns-then-i-text
unfolding byte_at
returns-then-i-text c = refl

pub returns-else-i-text : goal.returns-else-i-text
unfolding byte_at
returns-else-i-text c = sym (get_or-eq_default c.args.text.now 0 c.if-i-text.false)
