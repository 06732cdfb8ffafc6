-- `bitwise::print_limbs`: the text of the result lies within its buffer. Assumes nothing.
use Rattle.limbcalls.proofs.Prefixes.{bytes_counted}
use Rattle.limbcalls.proofs.bitwise.print_limbs.Goals as goal

pub slice_bounds-space-end : goal.slice_bounds-space-end
slice_bounds-space-end c = (bytes_counted c.spell_limbs-n.ensures).0

pub slice_bounds-put-end : goal.slice_bounds-put-end
slice_bounds-put-end c = (bytes_counted c.spell_limbs-n.ensures).1
