-- Counts of bits.
--   ones_below k f        ==  how many of f 0 .. f (k-1) are true
--   bit_count x           ==  R6RS bitwise-bit-count: the ones of x, or not (the ones of not x) where x < 0
--   first_true k f        ==  the least i < k with f i, or k if there is none
--   first_bit_set x        ==  R6RS bitwise-first-bit-set: the position of the lowest one; -1 for 0
use Rattle.std.specs.Prelude.{ℕ, zero, suc, ◌+◌, Bool, true, false, cond, ℤ, pos, negsuc}
use Rattle.bits.specs.Testbit.{testbit, bit_length}
use Rattle.bits.specs.Logical.{bitwise_not}

unfoldable pub ones_below : ℕ → (ℕ → Bool) → ℕ
ones_below zero f = zero
ones_below (suc k) f = cond (f k) 1 0 + ones_below k f

unfoldable pub ones : ℕ → ℕ
ones n = ones_below (bit_length (pos n)) (λ i. testbit (pos n) i)

unfoldable pub bit_count : ℤ → ℤ
bit_count (pos n) = pos (ones n)
bit_count (negsuc n) = bitwise_not (pos (ones n))

unfoldable pub first_true : ℕ → (ℕ → Bool) → ℕ
first_true zero f = zero
first_true (suc k) f = elim (f zero) [ true ↦ zero | false ↦ suc (first_true k (λ i. f (suc i))) ]

-- a negative x has its first one at bit_length x, if it has none below
unfoldable pub first_bit_set : ℤ → ℤ
first_bit_set (pos zero) = negsuc zero
first_bit_set (pos (suc n)) = pos (first_true (bit_length (pos (suc n))) (λ i. testbit (pos (suc n)) i))
first_bit_set (negsuc n) = pos (first_true (bit_length (negsuc n)) (λ i. testbit (negsuc n) i))
