-- `limbstages::shift::shift_right` meets its contract. Assumes nothing.
use native.Mathlib.Omega.{arith}
use mathlib.Core.Path.{ap}
use Rattle.outcomes.specs.Outcome.{done}
use Rattle.limbwords.specs.Results.{meaning, Proper}
use Rattle.limbstages.proofs.WritesLaws.{writes_as}
use Rattle.limbstages.proofs.ShiftLaws.{legal-lengths, right-enough, capped_le, capped-right}
use Rattle.limbstages.proofs.shift.shift_right.Goals as goal

pub invariant_of-d : goal.invariant_of-d
unfolding Proper
invariant_of-d c =
    let n = (legal-lengths _ c.requires).0 in
    let r = capped_le c.args.by c.capped-distance.ensures in
    record { proper = ∣ omega arith ∣₁; x_nonzero = n; y_nonzero = n; z_nonzero = n }

pub enough_right-requires : goal.enough_right-requires
enough_right-requires c = record { x_nonzero = (legal-lengths _ c.requires).0; by_bound = capped_le c.args.by c.capped-distance.ensures }

pub run-requires : goal.run-requires
unfolding meaning
run-requires c =
    let n = legal-lengths _ c.requires in
    let e = c.enough_right.ensures.0 in
    record { enough_bounds = (e.0, omega (arith, n.1, e.1)); length_bound = right-enough _ c.requires _ _ e.0 c.enough_right.ensures.1 }

pub returns : goal.returns
unfolding meaning
returns c =
    writes_as (ap done (capped-right _ c.requires c.args.by c.capped-distance.ensures)) c.run.ensures
