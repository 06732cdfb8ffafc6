-- `fold::record::Open::with_accumulator` meets its contract. Assumes nothing.
use native.Mathlib.Omega.{arith}
use mathlib.Core.Path.{ap, ◌∙◌}
use Rattle.fold.specs.Fold.{is_open}
use Rattle.fold.proofs.RecordLaws.{updated}
use Rattle.fold.proofs.OpenLaws.{open_at}
use Rattle.fold.proofs.record.Open.with_accumulator.Goals as goal

pub invariant_of-result : goal.invariant_of-result
invariant_of-result c =
    let f = c.args.self.fold in
    let made = updated f c.args.accumulator (omega arith) (omega arith) (omega arith) c.ranges.accumulator in
    record { accepted = ap is_open made ∙ open_at f c.args.accumulator c.args.self.accepted c.requires }

pub returns : goal.returns
returns c = updated c.args.self.fold c.args.accumulator (omega arith) (omega arith) (omega arith) c.ranges.accumulator
