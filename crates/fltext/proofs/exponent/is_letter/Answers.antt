-- `fltext::exponent::is_letter` meets its contract. Assumes nothing.
use borrow.Author.Rules.{rules}
use Rattle.text.proofs.ReadingParts.{one_of-false}
use Rattle.fltext.proofs.ExponentLaws.{letter-p, letter-e, letter-none}
use Rattle.fltext.proofs.exponent.is_letter.Goals as goal

pub returns-in-112 : goal.returns-in-112
returns-in-112 c = letter-p _ _ c.in-112.is

pub returns-in-101 : goal.returns-in-101
returns-in-101 c = letter-e _ _ c.in-101.is

pub returns-in_default : goal.returns-in_default
returns-in_default c = letter-none _ _ (one_of-false 80 112 c.args.c (search rules)) (one_of-false 69 101 c.args.c (search rules))
