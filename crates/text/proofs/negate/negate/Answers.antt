-- `text::negate::negate` meets its contract, limb by limb. Assumes nothing.
use native.Mathlib.Omega.{arith}
use borrow.Author.Rules.{rules}
use mathlib.Core.Path.{refl, ◌∙◌}
use Rattle.text.proofs.NegateLaws.{negated-none, negated-more, negated-all, negated-value}
use Rattle.text.proofs.negate.negate.Goals as goal

pub loop-limb-init : goal.loop-limb-init
loop-limb-init c = negated-none _

pub loop-limb-preserved : goal.loop-limb-preserved
loop-limb-preserved c = negated-more _ _ c.loop-limb.invariant (omega arith) c.negated.ensures refl

pub returns : goal.returns
returns c = negated-all c.loop-limb.invariant (omega arith) ∙ negated-value _ (λ i. search rules)
