-- `text::negate::negate` meets its contract, limb by limb. Assumes nothing.
use Rattle.text.proofs.NegateLaws.{Negated}
use Rattle.text.proofs.negate.negate.Given as goal

abbrev pub invariant-loop-limb : goal.invariant-loop-limb
invariant-loop-limb l = Negated l.initial.x l.x l.lower l.limb-index
