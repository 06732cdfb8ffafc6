-- `limbwrite::write::write_rotate` meets its contract. Assumes nothing.
use native.Mathlib.Omega.{arith}
use mathlib.Core.Path.{◌≡◌}
use lib.ListN.{length}
use Rattle.bits.specs.Field.{permute_field, rotate_bit_field}
use Rattle.limbwords.specs.Results.{meaning}
use Rattle.limbwrite.proofs.SegmentLaws.{moved-below, moved-above, moved-upper, moved-others}
use Rattle.outcomes.proofs.PutsLaws.{puts-join}
use Rattle.limbwrite.proofs.write.write_rotate.Goals as goal

pub put_piece-low-requires-clause-moved : goal.put_piece-low-requires-clause-moved
unfolding meaning rotate_bit_field permute_field
put_piece-low-requires-clause-moved c = moved-below _ _ _ _

pub put_piece-between-requires-clause-moved : goal.put_piece-between-requires-clause-moved
unfolding meaning
put_piece-between-requires-clause-moved c = moved-upper _ _ _ _ c.requires.start_le_end.0 c.requires.by_bound

pub put_piece-top-requires-clause-moved : goal.put_piece-top-requires-clause-moved
unfolding meaning
put_piece-top-requires-clause-moved c = moved-others _ _ _ _ c.requires.start_le_end.0 c.requires.by_bound

pub put_last-requires-clause-moved : goal.put_last-requires-clause-moved
unfolding meaning rotate_bit_field permute_field
put_last-requires-clause-moved c = moved-above _ _ _ _ _

pub returns : goal.returns
unfolding meaning
returns c =
    let low = c.put_piece-low.ensures in
    let between = c.put_piece-between.ensures in
    let top = c.put_piece-top.ensures in
    let end : length c.put_piece-top.new.part ≡ length c.args.part.now = omega (arith, low.1.size, between.1.size, top.1.size) in
    let last = puts-join top.1 (rw end at c.put_last.ensures) top.0.0 (omega (arith, low.1.size, between.1.size, top.0)) in
    puts-join low.1 (puts-join between.1 last between.0.0 (omega (arith, low.1.size, between.0))) low.0.0 low.0.1
