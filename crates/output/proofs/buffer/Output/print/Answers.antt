use Rattle.output.proofs.PutsLaws.{writes-some}
use Rattle.output.proofs.buffer.Output.print.Goals as goal

pub returns-in-Ok : goal.returns-in-Ok
returns-in-Ok g c = writes-some c.args.self.now _ c.write.new.self c.in-Ok.ensures.writes
