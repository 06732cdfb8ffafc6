-- `limbsegments::segment::put_limbs` meets its contract. Assumes nothing.
use Rattle.std.proofs.Common.{rules}
use Rattle.limbsegments.proofs.segment.put_limbs.Goals as goal

pub returns : goal.returns
returns c = c.put_each.ensures _ (λ j v h p. search rules)
