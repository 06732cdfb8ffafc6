-- `fxarith::chain::chain` meets its contract. The invariant: the answer is what the turns before found, and the answer for the arguments
-- from the one before i on. Assumes nothing.
use Rattle.std.proofs.Common.{◌≡◌, ℤ, Bool, ◌-◌, ◌&&◌, drop}
use Rattle.fxtable.specs.Calls.{counted}
use Rattle.fxtable.specs.Operations.{chain}
use Rattle.fxstages.specs.Inner.{Computes}
use Rattle.fxarith.proofs.chain.chain.Given as goal

abbrev pub invariant-loop-i : goal.invariant-loop-i
invariant-loop-i g l =
    (relation : ℤ → ℤ → Bool)
    → Computes (goal.F-post g l.holds) relation
    → chain relation (counted l.args l.count) ≡ l.all && chain relation (drop (l.i - 1) (counted l.args l.count))
