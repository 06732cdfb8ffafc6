-- `fltext::limbs::multiply_add` meets its contract, limb by limb. Assumes nothing.
use Rattle.fltext.proofs.LimbLaws.{Scaled}
use Rattle.fltext.proofs.limbs.multiply_add.Given as goal

abbrev pub invariant-loop-limb : goal.invariant-loop-limb
invariant-loop-limb l = Scaled l.initial.x l.b l.c l.x l.carry l.limb-index
