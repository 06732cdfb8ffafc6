-- `fxtable::answer::question` meets its contract. Assumes nothing.
use mathlib.Core.Path.{◌≡◌, refl, ◌∙◌}
use mathlib.Core.Bool.{Bool, true, false}
use mir.Syntax.{w64}
use mir.Val.{bool_byte, to_z}
use Rattle.fxtable.specs.Operations.{truth}
use Rattle.fxtable.proofs.CallLaws.{done-cong}
use Rattle.fxtable.proofs.answer.question.Goals as goal

-- a bool as a number
as_number : (b : Bool) → to_z w64 (bool_byte b) ≡ truth b
unfolding truth
as_number true = refl
as_number false = refl

pub returns : goal.returns
returns c = c.done.ensures ∙ done-cong (as_number c.args.yes) refl
