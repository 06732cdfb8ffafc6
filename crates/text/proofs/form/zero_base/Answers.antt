-- `text::form::zero_base` meets its contract. Assumes nothing.
use mathlib.Core.Path.{refl, sym, ap}
use mathlib.Core.Logic.{⊎_elim}
use borrow.Author.Rules.{rules}
use Rattle.text.specs.Numerals.{one_of, zero_base}
use Rattle.text.proofs.ReadingParts.{one_of-false}
use Rattle.text.proofs.form.zero_base.Goals as goal

pub returns-in-120 : goal.returns-in-120
unfolding one_of zero_base
returns-in-120 c = sym (⊎_elim (λ e. ap zero_base e) (λ e. ap zero_base e) c.in-120.is)

pub returns-in-98 : goal.returns-in-98
unfolding one_of zero_base
returns-in-98 c = sym (⊎_elim (λ e. ap zero_base e) (λ e. ap zero_base e) c.in-98.is)

pub returns-in_default : goal.returns-in_default
unfolding zero_base
returns-in_default c = sym (rw (one_of-false 88 120 c.args.c (search rules), one_of-false 66 98 c.args.c (search rules)) refl)
