-- `limbwrite::write::write_field` meets its contract. Assumes nothing.
use Rattle.limbwords.specs.Results.{meaning}
use Rattle.limbwrite.proofs.SegmentLaws.{moved-field}
use Rattle.limbwrite.proofs.write.write_field.Goals as goal

pub put_last-requires-clause-moved : goal.put_last-requires-clause-moved
unfolding meaning
put_last-requires-clause-moved c = moved-field _ _ _

pub returns : goal.returns
unfolding meaning
returns c = c.put_last.ensures
