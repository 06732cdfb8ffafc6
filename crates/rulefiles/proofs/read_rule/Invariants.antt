use Rattle.std.proofs.Common.{◌≤◌, length}
use Rattle.rulefiles.proofs.read_rule.Given as goal

abbrev pub invariant-loop : goal.invariant-loop
invariant-loop g l = l.have ≤ length l.buffer
