-- `fltext::scale::append_digits` meets its contract, one digit at a time. Assumes nothing.
use lib.ListN.{take}
use Rattle.text.specs.Numerals.{numeral_from}
use Rattle.text.specs.Naturals.{natural}
use Rattle.fltext.specs.Limbs.{Becomes}
use Rattle.fltext.proofs.scale.append_digits.Given as goal

abbrev pub invariant-loop-c : goal.invariant-loop-c
invariant-loop-c l = Becomes (numeral_from l.base (natural l.initial.x) (take l.c-index l.digits)) l.initial.x l.x
