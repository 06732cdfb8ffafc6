-- `limbwords::logical::combine` meets its contract. Assumes nothing.
use mathlib.Core.Path.{◌≡◌, sym, ap, ◌∙◌}
use mathlib.Core.Bool.{Bool}
use Rattle.words.proofs.Digitwise.{testbit-digitwise, and-digitwise, ior-digitwise, xor-digitwise}
use Rattle.limbwords.proofs.LogicalLaws.{not-bits}
use Rattle.limbwords.specs.declared.result.Logic.{Logic}
use Rattle.limbwords.specs.Results.{logic_of}
use Rattle.limbwords.proofs.logical.combine.Goals as goal

-- the operation that an arm of the match stands for
arm : (p q : Bool) {k l : Logic} → k ≡ l → logic_of l p q ≡ logic_of k p q
arm p q e = ap (λ (l : Logic). logic_of l p q) (sym e)

pub returns-in-And : goal.returns-in-And
unfolding logic_of
returns-in-And c t k = testbit-digitwise and-digitwise t _ _ ∙ arm _ _ c.in-And.is

pub returns-in-Ior : goal.returns-in-Ior
unfolding logic_of
returns-in-Ior c t k = testbit-digitwise ior-digitwise t _ _ ∙ arm _ _ c.in-Ior.is

pub returns-in-Xor : goal.returns-in-Xor
unfolding logic_of
returns-in-Xor c t k = testbit-digitwise xor-digitwise t _ _ ∙ arm _ _ c.in-Xor.is

pub returns-in-Not : goal.returns-in-Not
unfolding logic_of
returns-in-Not c t k = not-bits _ c.ranges.a.fits t k ∙ arm _ _ c.in-Not.is
