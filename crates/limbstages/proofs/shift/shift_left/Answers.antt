-- `limbstages::shift::shift_left` meets its contract. Assumes nothing.
use native.Mathlib.Omega.{arith}
use mathlib.Core.Path.{refl}
use Rattle.outcomes.specs.Refusal.{code_of}
use Rattle.limbwords.specs.Results.{meaning, Proper}
use Rattle.limbstages.proofs.WritesLaws.{writes-refused, writes_as}
use Rattle.limbstages.proofs.ShiftLaws.{legal-lengths, left-enough, capped_le, left-done, left-refused}
use Rattle.limbstages.proofs.shift.shift_left.Goals as goal

pub invariant_of-d : goal.invariant_of-d
unfolding Proper
invariant_of-d c =
    let n = (legal-lengths _ c.requires).0 in
    let r = capped_le c.args.by c.capped-distance.ensures in
    record { proper = ∣ omega arith ∣₁; x_nonzero = n; y_nonzero = n; z_nonzero = n }

pub measure-n-requires : goal.measure-n-requires
unfolding meaning
measure-n-requires c =
    let n = legal-lengths _ c.requires in
    let r = capped_le c.args.by c.capped-distance.ensures in
    record { enough_bounds = (omega arith, omega (arith, n.1)); length_bound = left-enough _ c.requires _ }

pub returns-then-n-gt-MOST_LIMBS : goal.returns-then-n-gt-MOST_LIMBS
unfolding meaning code_of
returns-then-n-gt-MOST_LIMBS c =
    writes-refused _ _ (left-refused _ c.requires c.args.by c.capped-distance.ensures c.measure-n.ensures c.if-n-gt-MOST_LIMBS.true) refl

pub returns : goal.returns
unfolding meaning
returns c =
    let n = c.if-n-gt-MOST_LIMBS.false in
    writes_as (left-done _ c.requires c.args.by c.capped-distance.ensures c.measure-n.ensures n) c.store.ensures
