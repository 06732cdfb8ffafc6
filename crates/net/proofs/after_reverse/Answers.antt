-- `after_reverse`: one step of the net count. Assumes nothing.
use native.Mathlib.Omega.{arith}
use Rattle.net.proofs.NetLaws.{reverse-none, reverse-some}
use Rattle.net.proofs.after_reverse.Goals as goal

pub returns-then-net-eq0-clause-result_value : goal.returns-then-net-eq0-clause-result_value
returns-then-net-eq0-clause-result_value c h = reverse-none c.args.size c.args.net (omega arith)

pub returns-clause-result_value : goal.returns-clause-result_value
returns-clause-result_value c h = reverse-some c.args.size c.args.net (omega arith) h
