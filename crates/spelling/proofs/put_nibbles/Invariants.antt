-- `spelling::put_nibbles` meets its contract, from the last digit to the first. Assumes nothing.
use Rattle.text.specs.Naturals.{natural}
use Rattle.spelling.proofs.DigitLaws.{Put}
use Rattle.spelling.proofs.put_nibbles.Given as goal

abbrev pub invariant-loop-i : goal.invariant-loop-i
invariant-loop-i l = Put (natural l.x) l.k l.initial.out l.out l.i
