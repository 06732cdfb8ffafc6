-- `fltext::rounding::nearest_bits` meets its contract, one half after another. Assumes nothing.
use Rattle.text.specs.Naturals.{natural}
use Rattle.fltext.proofs.HalvingLaws.{Halved}
use Rattle.fltext.proofs.rounding.nearest_bits.Given as goal

abbrev pub invariant-loop-negative : goal.invariant-loop-negative
invariant-loop-negative l = Halved l.initial.x l.rest l.x l.below l.k

abbrev pub decreases-loop-negative : goal.decreases-loop-negative
decreases-loop-negative l = natural l.x
