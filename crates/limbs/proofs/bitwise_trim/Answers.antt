-- `limbs::bitwise_trim` meets its contract. Assumes nothing.
use mathlib.Core.Bool.{not}
use mathlib.Core.Path.{ap, refl}
use Rattle.outcomes.specs.Refusal.{code_of}
use native.Mathlib.Omega.{arith}
use lib.ListN.{length}
use Rattle.outcomes.proofs.OutcomeLaws.{passed, failed}
use Rattle.limbwords.specs.Value.{value}
use Rattle.limbwords.proofs.ValueLaws.{limb_count-le, value-length}
use Rattle.limbstages.specs.Stages.{untrimmed}
use Rattle.limbstages.proofs.StageLaws.{legal, illegal, limbs-lengths}
use Rattle.limbstages.proofs.WritesLaws.{writes_as, writes-refused}
use Rattle.limbs.specs.Operations.{trim_outcome}
use Rattle.limbs.proofs.bitwise_trim.Goals as goal

pub returns-then-not-has_limbs : goal.returns-then-not-has_limbs
unfolding trim_outcome untrimmed code_of
returns-then-not-has_limbs c = writes-refused _ _ (failed 7 _ (illegal c.has_limbs.ensures (ap not c.if-not-has_limbs.true))) refl

pub store_limbs-requires : goal.store_limbs-requires
store_limbs-requires c =
    let x = limbs-lengths _ (legal c.has_limbs.ensures (ap not c.if-not-has_limbs.false)) in
    let n = c.shortest_length.ensures in
    let xs = c.args.x.now in
    record { x_nonzero = (x.0, omega (arith, n, limb_count-le (value xs) (length xs) (value-length xs x.0))); count_value = n }

pub returns : goal.returns
unfolding trim_outcome untrimmed
returns c =
    writes_as (passed 7 _ (legal c.has_limbs.ensures (ap not c.if-not-has_limbs.false))) c.store_limbs.ensures

pub shortest_length-requires : goal.shortest_length-requires
shortest_length-requires c = (limbs-lengths _ (legal c.has_limbs.ensures (ap not c.if-not-has_limbs.false))).0
