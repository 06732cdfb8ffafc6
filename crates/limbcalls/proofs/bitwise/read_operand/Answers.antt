-- `bitwise::read_operand`: what `text::read_limbs` has put into the buffer lies within it. Assumes nothing.
use Rattle.limbcalls.proofs.Prefixes.{limbs-counted}
use Rattle.limbcalls.proofs.bitwise.read_operand.Goals as goal

pub slice_bounds-result-end : goal.slice_bounds-result-end
slice_bounds-result-end c = (limbs-counted _ c.read_limbs.ensures.value c.read_limbs.ensures.holds c.in-Ok.is).1
