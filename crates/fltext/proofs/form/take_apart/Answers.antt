-- `fltext::form::take_apart` meets its contract. Assumes nothing.
use native.Mathlib.Omega.{arith}
use Rattle.fltext.proofs.FormLaws.{whole_le, from_le, end-le, parts_are}
use Rattle.fltext.proofs.form.take_apart.Goals as goal

pub slice_bounds-digit_count-count : goal.slice_bounds-digit_count-count
slice_bounds-digit_count-count c = from_le _ _ c.digit_count-whole.ensures c.point_length.ensures

pub overflow_add-end : goal.overflow_add-end
overflow_add-end c =
    omega (arith, end-le _ _ c.digit_count-whole.ensures c.point_length.ensures c.digit_count.ensures)

pub returns : goal.returns
returns c =
    parts_are _ _ c.digit_count-whole.ensures c.point_length.ensures c.digit_count.ensures _ c.base-base.ensures.value

pub slice_bounds-point_length-count : goal.slice_bounds-point_length-count
slice_bounds-point_length-count c = whole_le _ _ c.digit_count-whole.ensures

pub slice_bounds-point_length-start : goal.slice_bounds-point_length-start
slice_bounds-point_length-start c = whole_le _ _ c.digit_count-whole.ensures

pub overflow_add-from : goal.overflow_add-from
overflow_add-from c = omega (arith, slice_bounds-digit_count-count c)

pub slice_bounds-digit_count-start : goal.slice_bounds-digit_count-start
slice_bounds-digit_count-start c = slice_bounds-digit_count-count c
