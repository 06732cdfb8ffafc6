use Rattle.std.proofs.Common.{◌≤◌, length}
use Rattle.batch.proofs.Batch.take_input.Given as goal

abbrev pub invariant-loop : goal.invariant-loop
invariant-loop g l = l.have ≤ length l.input
