-- `limbmeasure::measure_by` meets its contract, turn by turn. Assumes nothing.
use Prim.Native.Nat.{◌-◌}
use native.Mathlib.Omega.{arith}
use mathlib.Core.Path.{ap}
use mathlib.Core.Bool.{not}
use Rattle.limbmeasure.proofs.MeasureLaws.{all-enough, one_less, counted, counted-one}
use Rattle.limbmeasure.proofs.measure_by.Goals as goal

pub loop-n-init : goal.loop-n-init
loop-n-init g c =
    (omega arith, λ z p h. all-enough c.requires.enough_nonzero h (p (c.args.enough - 1) _ (omega arith) c.limb-high.ensures))

pub returns-then-not-is_padding : goal.returns-then-not-is_padding
returns-then-not-is_padding g c =
    λ z p h.
    counted (c.loop-n.invariant.1 z p h) c.loop-n-test.true (p (c.loop-n.n - 2) _ (omega arith) c.limb-low.ensures) c.is_padding.ensures
    (ap not c.if-not-is_padding.true)

pub loop-n-preserved : goal.loop-n-preserved
loop-n-preserved g c = (
  omega arith,
  λ z p h.
      one_less (c.loop-n.invariant.1 z p h) c.loop-n-test.true (p (c.loop-n.n - 2) _ (omega arith) c.limb-low.ensures) c.is_padding.ensures
      (ap not c.if-not-is_padding.false),
)

pub returns : goal.returns
returns g c = λ z p h. counted-one (c.loop-n.invariant.1 z p h) (omega arith)
