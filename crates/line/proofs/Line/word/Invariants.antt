use Rattle.std.proofs.Common.{◌≤◌}
use Rattle.line.proofs.Line.word.Given as goal

abbrev pub invariant-loop-at : goal.invariant-loop-at
invariant-loop-at l = l.start ≤ l.at
