-- `flonum::answer::FlatAnswerFromAnswer::from` meets its contract. Assumes nothing.
use Rattle.std.proofs.Common.{ℤ, sym, ap, ◌∙◌, rules}
use lib.Ieee.{of_bits}
use Rattle.words.proofs.WordLaws.{back}
use Rattle.flonum.specs.declared.answer.Answer.TheVariants.{Fixnum}
use Rattle.flonum.specs.Calls.{flat}
use Rattle.flonum.proofs.answer.FlatAnswerFromAnswer.from.Goals as goal

pub returns-in-Refused : goal.returns-in-Refused
unfolding flat of_bits
returns-in-Refused c = sym (ap flat c.in-Refused.is)

pub returns-in-Fixnum : goal.returns-in-Fixnum
unfolding flat of_bits
returns-in-Fixnum c = ap (λ (n : ℤ). flat (Fixnum n)) (back (search rules)) ∙ sym (ap flat c.in-Fixnum.is)

pub returns-in-Flonum : goal.returns-in-Flonum
unfolding flat of_bits
returns-in-Flonum c = sym (ap flat c.in-Flonum.is)
