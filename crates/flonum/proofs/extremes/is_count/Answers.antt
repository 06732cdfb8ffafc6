-- `flonum::extremes::is_count` meets its contract. Assumes nothing.
use Rattle.std.proofs.Common.{arith}
use Rattle.std.proofs.lemmas.Bool.Decides.{nat_tests}
use Rattle.flonum.specs.Calls.{is_count}
use Rattle.flonum.proofs.extremes.is_count.Goals as goal

pub returns-in-1-to-4 : goal.returns-in-1-to-4
unfolding is_count
returns-in-1-to-4 c = grind (arith, nat_tests)

pub returns-in_default : goal.returns-in_default
unfolding is_count
returns-in_default c = grind (arith, nat_tests)

pub returns-in_default-2 : goal.returns-in_default-2
unfolding is_count
returns-in_default-2 c = grind (arith, nat_tests)
