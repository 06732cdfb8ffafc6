-- `limbwrite::write::write_copy_field` meets its contract. Assumes nothing.
use native.Mathlib.Omega.{arith}
use mathlib.Core.Path.{◌≡◌}
use lib.ListN.{length}
use Rattle.bits.specs.Field.{copy_bit_field}
use Rattle.limbwords.specs.Results.{meaning}
use Rattle.limbwrite.proofs.SegmentLaws.{moved-below, moved-above, moved-copy}
use Rattle.outcomes.proofs.PutsLaws.{puts-join}
use Rattle.limbwrite.proofs.write.write_copy_field.Goals as goal

pub put_piece-low-requires-clause-moved : goal.put_piece-low-requires-clause-moved
unfolding meaning copy_bit_field
put_piece-low-requires-clause-moved c = moved-below _ _ _ _

pub put_piece-top-requires-clause-moved : goal.put_piece-top-requires-clause-moved
unfolding meaning
put_piece-top-requires-clause-moved c = moved-copy _ _ _ _

pub put_last-requires-clause-moved : goal.put_last-requires-clause-moved
unfolding meaning copy_bit_field
put_last-requires-clause-moved c = moved-above _ _ _ _ _

pub returns : goal.returns
unfolding meaning
returns c =
    let low = c.put_piece-low.ensures in
    let top = c.put_piece-top.ensures in
    let end : length c.put_piece-top.new.part ≡ length c.args.part.now = omega (arith, low.1.size, top.1.size) in
    puts-join low.1 (puts-join top.1 (rw end at c.put_last.ensures) top.0.0 (omega (arith, low.1.size, top.0))) low.0.0 low.0.1
