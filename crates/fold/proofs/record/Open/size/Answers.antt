-- `fold::record::Open::size` meets its contract. Assumes nothing.
use native.Mathlib.Omega.{arith}
use Rattle.fold.proofs.OpenLaws.{open-field}
use Rattle.fold.proofs.record.Open.size.Goals as goal

pub overflow_sub-result : goal.overflow_sub-result
overflow_sub-result c = omega (arith, (open-field c.args.self.fold c.args.self.accepted).ordered)
