-- `fxtable::table::has_two_results` meets its contract. Assumes nothing.
use mathlib.Core.Path.{ap}
use Rattle.fxtable.specs.declared.table.Signature.{Signature}
use Rattle.fxtable.specs.Table.{signature_of}
use Rattle.fxtable.proofs.table.has_two_results.Goals as goal

pub returns : goal.returns
unfolding signature_of
returns c = ap (λ (s : Signature). s.double) c.signature_of.ensures
