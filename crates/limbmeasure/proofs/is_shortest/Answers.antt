-- `limbmeasure::is_shortest` meets its contract. Assumes nothing.
use Prim.Native.Nat.{ℕ, ◌<◌}
use native.Mathlib.Omega.{arith}
use mathlib.Core.Path.{◌≡◌}
use lib.ListN.{length, get_or}
use Rattle.limbwords.specs.Value.{value, is_shortest}
use Rattle.limbwords.specs.Results.{limb_at}
use Rattle.limbwords.proofs.ValueLaws.{value-length}
use Rattle.limbwords.proofs.LimbLaws.{limb-value}
use Rattle.limbmeasure.proofs.MeasureLaws.{all-enough, fewest, fewest-one}
use Rattle.limbmeasure.proofs.is_shortest.Goals as goal
use Rattle.limbmeasure.proofs.is_shortest.Goals.{After-is_padding}

pub returns-then-n-eq1 : goal.returns-then-n-eq1
unfolding is_shortest
returns-then-n-eq1 c = fewest-one _ _ c.if-n-eq1.true (value-length _ c.requires)

-- a limb of x
limb : (c : After-is_padding) (k : ℕ) → let x = c.args.x.now in k < length x → get_or x k 0 ≡ limb_at (value x) k
limb c k h = limb-value _ _ (λ i. (c.type_inv.x i).fits) h

pub returns-else-n-eq1 : goal.returns-else-n-eq1
unfolding is_shortest
returns-else-n-eq1 c =
    let h = c.requires in
    let p = c.if-n-eq1.false in
    fewest (all-enough h (value-length _ h) (limb c _ (omega arith))) (omega arith) (limb c _ (omega arith)) c.is_padding.ensures
