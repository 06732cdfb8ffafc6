use Rattle.std.proofs.Common.{◌≤◌, length}
use Rattle.ql.proofs.take_words.Given as goal

abbrev pub invariant-loop-i : goal.invariant-loop-i
invariant-loop-i g l = l.at ≤ length l.buffer
