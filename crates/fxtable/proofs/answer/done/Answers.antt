-- `fxtable::answer::done` meets its contract. Assumes nothing.
use mathlib.Core.Path.{ap₂}
use lib.IntN.{ℤ}
use Rattle.outcomes.specs.Outcome.{done}
use Rattle.words.proofs.WordLaws.{back}
use Rattle.fxtable.specs.Calls.{answer}
use Rattle.fxtable.proofs.answer.done.Goals as goal

pub returns : goal.returns
unfolding answer
returns c = ap₂ (λ (x y : ℤ). answer (done (x, y))) (back c.ranges.first) (back c.ranges.second)
