-- `fltext::reading::read_unsigned` meets its contract. Assumes nothing.
use Prim.Native.Nat.{◌≤◌}
use mathlib.Core.Path.{sym, ap, ◌∙◌}
use mathlib.Core.Bool.{true}
use lib.ListN.{length}
use borrow.Author.Rules.{part_to_end}
use Rattle.std.specs.Prelude.{Ok}
use Rattle.fltext.specs.Readings.{number_reading, unsigned_reading}
use Rattle.fltext.proofs.ReadingLaws.{hex-length}
use Rattle.fltext.proofs.reading.read_unsigned.Goals as goal
use Rattle.fltext.proofs.reading.read_unsigned.Goals.{Then-is_hexadecimal}

pub returns-then-is_infinite : goal.returns-then-is_infinite
unfolding unsigned_reading
returns-then-is_infinite c = rw (sym c.is_infinite.ensures ∙ c.if-is_infinite.true) (ap Ok c.infinity.ensures)

pub returns-then-is_nan : goal.returns-then-is_nan
unfolding unsigned_reading
returns-then-is_nan c =
    rw (sym c.is_infinite.ensures ∙ c.if-is_infinite.false, sym c.is_nan.ensures ∙ c.if-is_nan.true) (ap Ok c.the_nan.ensures)

within : (c : Then-is_hexadecimal) → 2 ≤ length c.args.text.now
within c = hex-length _ (sym c.is_hexadecimal.ensures ∙ c.if-is_hexadecimal.true)

pub returns-then-is_hexadecimal : goal.returns-then-is_hexadecimal
unfolding unsigned_reading
returns-then-is_hexadecimal c =
    let a = c.args in
    rw (sym c.is_infinite.ensures ∙ c.if-is_infinite.false, sym c.is_nan.ensures ∙ c.if-is_nan.false, sym c.is_hexadecimal.ensures ∙ c.if-is_hexadecimal.true)
    (c.read_number.ensures ∙ ap (number_reading a.negative true) (part_to_end a.text.now 2))

pub returns : goal.returns
unfolding unsigned_reading
returns c =
    rw (sym c.is_infinite.ensures ∙ c.if-is_infinite.false, sym c.is_nan.ensures ∙ c.if-is_nan.false, sym c.is_hexadecimal.ensures ∙ c.if-is_hexadecimal.false)
    c.read_number-2.ensures

pub slice_bounds-read_number-count : goal.slice_bounds-read_number-count
slice_bounds-read_number-count = within

pub slice_bounds-read_number-start : goal.slice_bounds-read_number-start
slice_bounds-read_number-start c = within c
