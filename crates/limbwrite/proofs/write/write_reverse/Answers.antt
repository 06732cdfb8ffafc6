-- `limbwrite::write::write_reverse` meets its contract. Assumes nothing.
use Rattle.std.proofs.Common.{rules}
use Rattle.limbwrite.proofs.write.write_reverse.Goals as goal

pub returns : goal.returns
returns c = c.put_each.ensures _ (λ j v h p. search rules)
