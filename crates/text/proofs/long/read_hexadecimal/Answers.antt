-- `text::long::read_hexadecimal` meets its contract. Assumes nothing.
use Prim.Native.Nat.{◌+◌, ◌*◌, ◌/◌, ◌<◌}
use native.Mathlib.Omega.{arith}
use lib.IntN.{pos}
use lib.ListN.{length}
use borrow.Author.Tests.{le-leb, lt-leb}
use Rattle.bits.specs.Testbit.{bit_length}
use Rattle.text.specs.Numerals.{numeral}
use Rattle.text.proofs.ReadingBuffer.{digits-room, first-natural, first_signed, first-within, lays-none, lays-as}
use Rattle.text.proofs.long.read_hexadecimal.Goals as goal
use Rattle.text.proofs.long.read_hexadecimal.Goals.{After-put_digits-n}

pub returns-then-out-digits : goal.returns-then-out-digits
returns-then-out-digits c = let a = c.args in lays-none _ _ (lt-leb ((length a.digits.now + 7) / 8 + 1) (length a.out.now) (omega arith))

-- the limbs that were put are enough
room : (c : After-put_digits-n) → let a = c.args in bit_length (pos (numeral 16 a.digits.now)) < 32 * c.put_digits-n.result
room c = digits-room c.args.digits.now c.requires c.put_digits-n.ensures.value

pub sign_first-requires : goal.sign_first-requires
sign_first-requires c =
    let a = c.args in
    record { n_nonzero = (omega (arith, c.put_digits-n.ensures.value), first-within _ _ a.out.now c.put_digits-n.ensures.out_after (room (goal.at.sign_first-requires c).After-put_digits-n) (omega (arith, c.put_digits-n.ensures.value))); out_value = first-natural _ _ a.out.now c.put_digits-n.ensures.out_after (room (goal.at.sign_first-requires c).After-put_digits-n) }

pub returns : goal.returns
returns c =
    let a = c.args in
    lays-as c.sign_first.ensures
    (first_signed _ _ a.out.now c.put_digits-n.ensures.out_after (room (goal.at.returns c).After-put_digits-n) a.negative)
    (le-leb ((length a.digits.now + 7) / 8 + 1) (length a.out.now) (omega arith))
