-- `fold::record::Open::lent` meets its contract. Assumes nothing.
use native.Mathlib.Omega.{arith}
use Rattle.std.proofs.lemmas.Grind.{common_steps}
use Rattle.fold.proofs.RecordLaws.{refused-shut}
use Rattle.fold.proofs.record.Open.lent.Goals as goal

pub returns-clause-err : goal.returns-clause-err
returns-clause-err c = grind (arith, common_steps, refused-shut)
