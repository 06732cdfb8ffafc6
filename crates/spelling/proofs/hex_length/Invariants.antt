-- `spelling::hex_length` meets its contract: digits that are 0 go, from the first on. Assumes nothing.
use Prim.Native.Nat.{◌*◌, ◌≤◌}
use lib.ListN.{length}
use Rattle.text.specs.Naturals.{natural}
use Rattle.spelling.proofs.DigitLaws.{Below}
use Rattle.spelling.proofs.hex_length.Given as goal

abbrev pub invariant-loop-i : goal.invariant-loop-i
invariant-loop-i l = (l.i ≤ 8 * length l.x) × Below (natural l.x) l.i
