-- `limbstages::run::run` meets its contract. Assumes nothing.
use native.Mathlib.Omega.{arith}
use Rattle.limbwords.proofs.ValueLaws.{limb_count-le}
use Rattle.limbstages.proofs.run.run.Goals as goal

pub store-requires-clause-n_bound : goal.store-requires-clause-n_bound
store-requires-clause-n_bound c = omega (arith, c.measure-n.ensures, limb_count-le _ _ c.requires.length_bound)
