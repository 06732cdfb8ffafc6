-- `fltext::limbs::divide` meets its contract, limb by limb. Assumes nothing.
use Rattle.fltext.proofs.LimbLaws.{Divided}
use Rattle.fltext.proofs.limbs.divide.Given as goal

abbrev pub invariant-loop-j : goal.invariant-loop-j
invariant-loop-j l = Divided l.initial.x l.b l.x l.r l.j
