-- What the code's description of a result means, on the values of up to three operands, and the limbs of an integer by index. No public
-- call's contract cites these.
--   logic_of l            ==  the Boolean operation
--   meaning r x y z      ==  the integer that r describes
--   Proper r             ==  the numbers of r are what the limb functions can work with
--   bits_from z at        ==  the 32 bits of z from a position on, as a limb
--   limb_at z j           ==  limb j of z
use Rattle.std.specs.Prelude.{ℕ, ◌*◌, ◌-◌, ◌^◌, ◌≤◌, ◌<◌, Bool, not, ◌&&◌, ◌||◌, ℤ, pos}
use Rattle.std.specs.Bool.{xor}
use Rattle.bits.specs.Logical.{bitwise, bitwise_if}
use Rattle.bits.specs.Shift.{shift_left, shift_right}
use Rattle.bits.specs.Division.{mod_ℕ}
use Rattle.bits.specs.Field.{bit_field, copy_bit_field, rotate_bit_field, reverse_bit_field}
use Rattle.limbwords.specs.declared.result.Logic.{Logic}
use Rattle.limbwords.specs.declared.result.Logic.TheVariants.{And, Ior, Xor, Not}
use Rattle.limbwords.specs.declared.result.Operation.{Operation}
use Rattle.limbwords.specs.declared.result.Operation.TheVariants.{Logical, If, ShiftLeft, ShiftRight, Field, CopyField, Rotate, Reverse}

unfoldable pub logic_of : Logic → Bool → Bool → Bool
logic_of And = ◌&&◌
logic_of Ior = ◌||◌
logic_of Xor = xor
logic_of Not = λ a b. not a

unfoldable pub meaning : Operation → ℤ → ℤ → ℤ → ℤ
meaning (Logical l) x y z = bitwise (logic_of l) x y
meaning If x y z = bitwise_if x y z
meaning (ShiftLeft by) x y z = shift_left x by
meaning (ShiftRight by) x y z = shift_right x by
meaning (Field start end) x y z = bit_field x start end
meaning (CopyField start end) x y z = copy_bit_field x start end y
meaning (Rotate start end by) x y z = rotate_bit_field x start end (pos by)
meaning (Reverse start end) x y z = reverse_bit_field x start end

-- a rotation is by at most the size of the field
unfoldable pub Proper : Operation → Type 0
Proper (Logical l) = Unit {0}
Proper If = Unit {0}
Proper (ShiftLeft by) = by < 2 ^ 32
Proper (ShiftRight by) = by < 2 ^ 32
Proper (Field start end) = (start ≤ end) × (end < 2 ^ 32)
Proper (CopyField start end) = (start ≤ end) × (end < 2 ^ 32)
Proper (Rotate start end by) = ((start ≤ end) × (end < 2 ^ 32)) × (by ≤ end - start)
Proper (Reverse start end) = (start ≤ end) × (end < 2 ^ 32)

unfoldable pub bits_from : ℤ → ℕ → ℕ
bits_from z at = mod_ℕ (shift_right z at) (2 ^ 32)

abbrev pub limb_at : ℤ → ℕ → ℕ
limb_at z j = bits_from z (32 * j)
