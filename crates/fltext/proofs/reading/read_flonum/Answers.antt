-- `fltext::reading::read_flonum` meets its contract. Assumes nothing.
use mathlib.Core.Path.{ap₂, ◌∙◌}
use Rattle.fltext.specs.Readings.{unsigned_reading, flonum_reading}
use Rattle.fltext.proofs.FormLaws.{sign-in, after-sign}
use Rattle.fltext.proofs.reading.read_flonum.Goals as goal

pub returns : goal.returns
unfolding flonum_reading
returns c = c.read_unsigned.ensures ∙ ap₂ unsigned_reading c.is_minus.ensures (after-sign _ c.sign_length.ensures)

pub slice_bounds-read_unsigned-count : goal.slice_bounds-read_unsigned-count
slice_bounds-read_unsigned-count c = sign-in _ c.sign_length.ensures

pub slice_bounds-read_unsigned-start : goal.slice_bounds-read_unsigned-start
slice_bounds-read_unsigned-start c = sign-in _ c.sign_length.ensures
