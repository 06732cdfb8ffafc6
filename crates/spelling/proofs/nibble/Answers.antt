-- `spelling::nibble` meets its contract. Assumes nothing.
use Rattle.spelling.proofs.NaturalLaws.{natural-digit}
use Rattle.spelling.proofs.nibble.Goals as goal

pub returns : goal.returns
returns c = natural-digit _ _ (λ j. (c.type_inv.x j).fits) c.requires
