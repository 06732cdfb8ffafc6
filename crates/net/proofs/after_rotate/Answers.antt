-- `after_rotate`: one step of the net count. Assumes nothing.
use native.Mathlib.Omega.{arith}
use Rattle.net.proofs.NetLaws.{rotate-below, rotate-above}
use Rattle.net.proofs.after_rotate.Goals as goal

pub returns-then-n-size-clause-result_value : goal.returns-then-n-size-clause-result_value
returns-then-n-size-clause-result_value c h = rotate-below c.args.size c.args.net c.args.count (omega arith)

pub returns-else-n-size-clause-result_value : goal.returns-else-n-size-clause-result_value
returns-else-n-size-clause-result_value c h = rotate-above c.args.size c.args.net c.args.count h (omega arith)
