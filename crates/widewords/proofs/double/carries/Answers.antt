-- `widewords::double::carries` meets its contract. Assumes nothing.
use Rattle.std.proofs.Common.{refl, arith}
use Rattle.widewords.proofs.DoubleLaws.{carry-word}
use Rattle.widewords.proofs.double.carries.Goals as goal

pub returns : goal.returns
returns c other h e = carry-word c.args.sum c.args.term other _ (omega arith) h e refl
