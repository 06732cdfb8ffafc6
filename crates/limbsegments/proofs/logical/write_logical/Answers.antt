-- `limbsegments::logical::write_logical` meets its contract: the limbs that both operands have, and then the others. Assumes nothing.
use Rattle.std.proofs.Common.{rules}
use Rattle.std.proofs.lemmas.List.{places}
use native.Mathlib.Omega.{arith}
use Rattle.limbsegments.proofs.Parts.{puts-two}
use Rattle.limbsegments.proofs.logical.write_logical.Goals as goal

pub returns : goal.returns
returns c =
    puts-two c.args.part.now c.min-common.result
    (c.put_each.ensures _ (λ j v h p. search rules))
    (search (rules, places))
    (omega arith)
    (c.put_each-2.ensures _ (λ j v h p. search rules))
    (search (rules, places))
