use Rattle.std.proofs.Common.{◌≤◌}
use Rattle.line.proofs.Line.count.Given as goal

abbrev pub invariant-loop-byte : goal.invariant-loop-byte
invariant-loop-byte l = l.words ≤ l.byte-index
