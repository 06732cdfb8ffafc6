-- `ruleevaluator::evaluate_form` ends: the depth falls. What its loop keeps. Assumes nothing.
use Rattle.rulevalues.proofs.ArgumentLaws.{Looping}
use Rattle.ruleevaluator.proofs.+evaluate_form.Given as goal

abbrev pub decreases-evaluate_form : goal.decreases-evaluate_form
decreases-evaluate_form l = l.depth

abbrev pub invariant-loop-i : goal.invariant-loop-i
invariant-loop-i l = Looping l.width l.inputs l.s l.at l.depth l.number l.count l.i l.p l.values
