-- `text::form::after_sign` meets its contract. Assumes nothing.
use native.Mathlib.Omega.{arith}
use mathlib.Core.Path.{refl}
use borrow.Author.Rules.{rules}
use Rattle.text.proofs.ReadingParts.{one_of-true, one_of-false}
use Rattle.text.proofs.form.after_sign.Goals as goal

pub returns-in-43 : goal.returns-in-43
returns-in-43 c = let b = c.byte_at in record { value = rw (← b.ensures, one_of-true 43 45 _ c.in-43.is) refl; upper_bound = omega arith }

pub returns-in_default : goal.returns-in_default
returns-in_default c = let b = c.byte_at in record { value = rw (← b.ensures, one_of-false 43 45 b.result (search rules)) refl; upper_bound = omega arith }
