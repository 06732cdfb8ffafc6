-- `flonum::answer::AnswerFromBool::from` meets its contract. Assumes nothing.
use Rattle.std.proofs.Common.{◌≡◌, Bool, true, false, cond, pos, refl, ap, ◌∙◌}
use mir.Val.{bool_byte}
use Rattle.words.proofs.WordLaws.{back}
use Rattle.flonum.specs.declared.answer.Answer.TheVariants.{Fixnum}
use Rattle.flonum.specs.Calls.{truth}
use Rattle.flonum.proofs.answer.AnswerFromBool.from.Goals as goal

as_number : (b : Bool) → pos (bool_byte b) ≡ cond b (pos 1) (pos 0)
as_number true = refl
as_number false = refl

pub returns : goal.returns
unfolding truth
returns c = ap Fixnum (back (record { sfits = c.from.type_inv }) ∙ c.from.ensures ∙ as_number c.args.yes)
