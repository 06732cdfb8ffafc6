-- Fields of bits: the positions from start up to, but not at, end. With start >= end a field is empty.
--   in_field start end i                ==  whether position i lies in the field
--   bit_field x start end               ==  the field as a number: bit j is bit start + j of x
--   set_field x start end g             ==  x, with bit start + j of the field replaced by g j
--   copy_bit_field x start end y         ==  x, with bit start + j of the field replaced by bit j of y
--   copy_bit x k y                      ==  x, with bit k replaced by y, which is 0 or 1
--   permute_field p x start end         ==  x, with bit start + j of the field replaced by bit start + p j of x
--   rotate_bit_field x start end c       ==  the field rotated by c towards the high end, c of either sign
--   reverse_bit_field x start end        ==  the field with its bits in the opposite order
--   FieldLocal start end op            ==  op changes only the field, by what is in the field
--
--   rotate_bit_field x 2 8 2      bit of the result   9 8 7 6 5 4 3 2 1 0
--                               is bit of x         9 8 5 4 3 2 7 6 1 0
--   reverse_bit_field x 2 8       is bit of x         9 8 2 3 4 5 6 7 1 0
use Rattle.std.specs.Prelude.{ℕ, suc, ◌+◌, ◌-◌, ◌≡◌, Bool, true, false, cond, ◌&&◌, leb, ltb, ℤ, pos, ◌-ℤ◌}
use Rattle.bits.specs.Testbit.{testbit, of_bits}
use Rattle.bits.specs.Shift.{shift_right}
use Rattle.bits.specs.Division.{mod_ℕ}

unfoldable pub in_field : ℕ → ℕ → ℕ → Bool
in_field start end i = leb start i && ltb i end

unfoldable pub bit_field : ℤ → ℕ → ℕ → ℤ
bit_field x start end = of_bits (end - start) (λ j. testbit x (start + j)) (pos 0)

unfoldable pub set_field : ℤ → ℕ → ℕ → (ℕ → Bool) → ℤ
set_field x start end g = of_bits end (λ i. cond (in_field start end i) (g (i - start)) (testbit x i)) (shift_right x end)

unfoldable pub copy_bit_field : ℤ → ℕ → ℕ → ℤ → ℤ
copy_bit_field x start end y = set_field x start end (λ j. testbit y j)

unfoldable pub copy_bit : ℤ → ℕ → ℤ → ℤ
copy_bit x k y = copy_bit_field x k (suc k) y

unfoldable pub permute_field : (ℕ → ℕ) → ℤ → ℕ → ℕ → ℤ
permute_field p x start end = set_field x start end (λ j. testbit x (start + p j))

-- (j - c) mod size, from 0 to size - 1
unfoldable pub rotate_index : ℕ → ℤ → ℕ → ℕ
rotate_index size c j = mod_ℕ (pos j -ℤ c) size

unfoldable pub reverse_index : ℕ → ℕ → ℕ
reverse_index size j = size - suc j

unfoldable pub rotate_bit_field : ℤ → ℕ → ℕ → ℤ → ℤ
rotate_bit_field x start end c = permute_field (rotate_index (end - start) c) x start end

unfoldable pub reverse_bit_field : ℤ → ℕ → ℕ → ℤ
reverse_bit_field x start end = permute_field (reverse_index (end - start)) x start end

-- op changes no bit outside the field, and what it makes of the field depends on the field alone
pub record FieldLocal (start end : ℕ) (op : ℤ → ℤ) : Type 0 where
  pub outside : (x : ℤ) (i : ℕ) → in_field start end i ≡ false → testbit (op x) i ≡ testbit x i
  pub inside : (x y : ℤ) → ((i : ℕ) → in_field start end i ≡ true → testbit x i ≡ testbit y i)
      → (i : ℕ) → in_field start end i ≡ true → testbit (op x) i ≡ testbit (op y) i
