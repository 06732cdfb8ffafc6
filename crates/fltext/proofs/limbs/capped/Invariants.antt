-- `fltext::limbs::capped` meets its contract. The invariant: n is the number of the limbs from j on. Assumes nothing.
use Rattle.fltext.proofs.LimbLaws.{Summed}
use Rattle.fltext.proofs.limbs.capped.Given as goal

abbrev pub invariant-loop-j : goal.invariant-loop-j
invariant-loop-j l = Summed l.x l.n l.j
