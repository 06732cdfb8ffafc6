-- `shifted`: the limbs that a call has written lie within the buffer. Assumes nothing.
use mathlib.Core.Path.{sym}
use lib.Seq.{length-take-le}
use Rattle.limbstages.proofs.WritesLaws.{count-within}
use Rattle.cases.proofs.shifted.Goals as goal

pub slice_bounds-to_word-end : goal.slice_bounds-to_word-end
slice_bounds-to_word-end c = (count-within c.in_ok-n.ensures).0

pub slice_bounds-to_word-end-2 : goal.slice_bounds-to_word-end-2
slice_bounds-to_word-end-2 c = sym (length-take-le c.in_ok-n.n c.bitwise_shift.new.out (count-within c.in_ok-n.ensures).0)
