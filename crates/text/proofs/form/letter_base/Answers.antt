-- `text::form::letter_base` meets its contract. Assumes nothing.
use mathlib.Core.Path.{refl, sym, ap}
use mathlib.Core.Logic.{⊎_elim}
use borrow.Author.Rules.{rules}
use Rattle.text.specs.Numerals.{one_of, letter_base}
use Rattle.text.proofs.ReadingParts.{one_of-false}
use Rattle.text.proofs.form.letter_base.Goals as goal

pub returns-in-120 : goal.returns-in-120
unfolding one_of letter_base
returns-in-120 c = sym (⊎_elim (λ e. ap letter_base e) (λ e. ap letter_base e) c.in-120.is)

pub returns-in-100 : goal.returns-in-100
unfolding one_of letter_base
returns-in-100 c = sym (⊎_elim (λ e. ap letter_base e) (λ e. ap letter_base e) c.in-100.is)

pub returns-in-111 : goal.returns-in-111
unfolding one_of letter_base
returns-in-111 c = sym (⊎_elim (λ e. ap letter_base e) (λ e. ap letter_base e) c.in-111.is)

pub returns-in-98 : goal.returns-in-98
unfolding one_of letter_base
returns-in-98 c = sym (⊎_elim (λ e. ap letter_base e) (λ e. ap letter_base e) c.in-98.is)

pub returns-in_default : goal.returns-in_default
unfolding letter_base
returns-in_default c =
    sym (rw (one_of-false 88 120 c.args.c (search rules), one_of-false 68 100 c.args.c (search rules), one_of-false 79 111 c.args.c (search rules), one_of-false 66 98 c.args.c (search rules)) refl)
