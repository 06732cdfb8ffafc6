-- `fxstages::fold::fold_all` meets its contract. The invariant: the answer is the fold of the arguments that are left, from the present value.
-- Assumes nothing.
use Rattle.std.proofs.Common.{◌≡◌, ℤ, drop}
use Rattle.fxtable.specs.Operations.{fold_from}
use Rattle.fxstages.specs.Inner.{Computes}
use Rattle.fxstages.proofs.fold.fold_all.Given as goal

abbrev pub invariant-loop-x : goal.invariant-loop-x
invariant-loop-x g l =
    (step : ℤ → ℤ → ℤ)
    → Computes (goal.F-post g l.f) step
    → fold_from step l.first l.x-items ≡ fold_from step l.value (drop l.x-index l.x-items)
