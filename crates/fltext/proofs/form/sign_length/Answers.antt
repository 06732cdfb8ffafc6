-- `fltext::form::sign_length` meets its contract. Assumes nothing.
use mathlib.Core.Path.{refl}
use borrow.Author.Rules.{rules}
use Rattle.text.proofs.ReadingParts.{one_of-true, one_of-false}
use Rattle.fltext.specs.Forms.{sign_length}
use Rattle.fltext.proofs.form.sign_length.Goals as goal

pub returns-in-43 : goal.returns-in-43
unfolding sign_length
returns-in-43 c = rw (← c.byte_at.ensures, one_of-true 43 45 _ c.in-43.is) refl

pub returns-in_default : goal.returns-in_default
unfolding sign_length
returns-in_default c = rw (← c.byte_at.ensures, one_of-false 43 45 c.byte_at.result (search rules)) refl
