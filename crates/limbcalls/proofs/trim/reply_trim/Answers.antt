-- `trim::reply_trim`: the shortest limbs lie within the buffer. Assumes nothing.
use Rattle.std.proofs.lemmas.Result.{IfOk-at_ok}
use Rattle.limbcalls.proofs.Prefixes.{written}
use Rattle.limbcalls.proofs.trim.reply_trim.Goals as goal

pub slice_bounds-space-end : goal.slice_bounds-space-end
slice_bounds-space-end c = (IfOk-at_ok _ c.in-Ok.is (written _ c.bitwise_trim.ensures)).0

pub slice_bounds-shortest-end : goal.slice_bounds-shortest-end
slice_bounds-shortest-end c = (IfOk-at_ok _ c.in-Ok.is (written _ c.bitwise_trim.ensures)).1
