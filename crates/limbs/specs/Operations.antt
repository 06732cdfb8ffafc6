-- The outcome of each limb call, from the limbs of its operands and its numbers: the first refusal in 01's order 7, 5, 6, or the integer.
-- The stages that refuse are those of `limbstages`.
use Rattle.std.specs.Prelude.{ℕ, Bool, cond, List, ℤ, pos, nat_abs}
use Rattle.bits.specs.Testbit.{testbit, bit_length, fits}
use Rattle.bits.specs.Logical.{bitwise_not, bitwise, bitwise_if}
use Rattle.bits.specs.Count.{bit_count, first_bit_set}
use Rattle.bits.specs.Shift.{arithmetic_shift, shift_left, shift_right}
use Rattle.bits.specs.Field.{copy_bit, bit_field, copy_bit_field, rotate_bit_field, reverse_bit_field}
use Rattle.limbwords.specs.Value.{value}
use Rattle.outcomes.specs.Outcome.{Outcome, done, guard}
use Rattle.limbstages.specs.Stages.{untrimmed, operand, natural, field, new_bit, sized}

-- bitwise-not
unfoldable pub not_outcome : List ℕ → Outcome ℤ
not_outcome x = operand x (done (bitwise_not (value x)))

-- bitwise-and, bitwise-ior, bitwise-xor of two, by the Boolean operation
unfoldable pub bitwise_outcome : (Bool → Bool → Bool) → List ℕ → List ℕ → Outcome ℤ
bitwise_outcome op x y = operand x (operand y (done (bitwise op (value x) (value y))))

-- bitwise-if
unfoldable pub if_outcome : List ℕ → List ℕ → List ℕ → Outcome ℤ
if_outcome x y z = operand x (operand y (operand z (done (bitwise_if (value x) (value y) (value z)))))

-- bitwise-copy-bit
unfoldable pub copy_bit_outcome : List ℕ → ℤ → ℤ → Outcome ℤ
copy_bit_outcome x k bit = operand x (new_bit k bit (done (copy_bit (value x) (nat_abs k) bit)))

-- bitwise-bit-field
unfoldable pub bit_field_outcome : List ℕ → ℤ → ℤ → Outcome ℤ
bit_field_outcome x start end = operand x (field start end (done (bit_field (value x) (nat_abs start) (nat_abs end))))

-- bitwise-copy-bit-field
unfoldable pub copy_bit_field_outcome : List ℕ → ℤ → ℤ → List ℕ → Outcome ℤ
copy_bit_field_outcome x start end y =
    operand x (operand y (field start end (done (copy_bit_field (value x) (nat_abs start) (nat_abs end) (value y)))))

-- bitwise-arithmetic-shift, -left, -right
unfoldable pub shift_outcome : List ℕ → ℤ → Outcome ℤ
shift_outcome x d = operand x (sized (arithmetic_shift (value x) d))

unfoldable pub shift_left_outcome : List ℕ → ℤ → Outcome ℤ
shift_left_outcome x d = operand x (natural d (sized (shift_left (value x) (nat_abs d))))

unfoldable pub shift_right_outcome : List ℕ → ℤ → Outcome ℤ
shift_right_outcome x d = operand x (natural d (done (shift_right (value x) (nat_abs d))))

-- bitwise-rotate-bit-field: the rotation reduces its count by the size of the field
unfoldable pub rotate_outcome : List ℕ → ℤ → ℤ → ℤ → Outcome ℤ
rotate_outcome x start end c =
    operand x (field start end (natural c (done (rotate_bit_field (value x) (nat_abs start) (nat_abs end) c))))

-- bitwise-reverse-bit-field
unfoldable pub reverse_outcome : List ℕ → ℤ → ℤ → Outcome ℤ
reverse_outcome x start end = operand x (field start end (done (reverse_bit_field (value x) (nat_abs start) (nat_abs end))))

-- bitwise-bit-count, bitwise-length, bitwise-first-bit-set, bitwise-bit-set?
unfoldable pub bit_count_outcome : List ℕ → Outcome ℤ
bit_count_outcome x = operand x (done (bit_count (value x)))

unfoldable pub length_outcome : List ℕ → Outcome ℤ
length_outcome x = operand x (done (pos (bit_length (value x))))

unfoldable pub first_bit_set_outcome : List ℕ → Outcome ℤ
first_bit_set_outcome x = operand x (done (first_bit_set (value x)))

unfoldable pub bit_set_outcome : List ℕ → ℤ → Outcome ℤ
bit_set_outcome x k = operand x (natural k (done (cond (testbit (value x) (nat_abs k)) (pos 1) (pos 0))))

-- the limbs themselves, which may be padded
unfoldable pub trim_outcome : List ℕ → Outcome ℤ
trim_outcome x = untrimmed x (done (value x))

-- the integer as one signed 64-bit word
unfoldable pub word_outcome : List ℕ → Outcome ℤ
word_outcome x = operand x (guard (fits 64 (value x)) 6 (done (value x)))
