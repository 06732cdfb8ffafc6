-- The bits of an integer in two's complement.
--   odd n            ==  whether n is odd
--   is_negative x     ==  x < 0: the sign, which is every bit from some position on
--   testbit x i      ==  bit i of x, bit 0 lowest
--   bit_length x      ==  R6RS bitwise-length: the bits of x, or of not x where x < 0, without leading zeros
--   fits w x         ==  -2^(w-1) <= x < 2^(w-1), for w > 0: x is a fixnum at width w
--   fill s           ==  the integer all of whose bits are s
--   cons_bit b x      ==  2 x + b
--   of_bits k f t     ==  the integer whose bits are f 0 .. f (k-1), and then those of t
use Rattle.std.specs.Prelude.{ℕ, zero, suc, ◌+◌, ◌*◌, ◌-◌, ◌/◌, ◌%◌, ◌^◌, Bool, true, false, not, cond, eqb, ltb, ℤ, pos, negsuc}
use Rattle.std.specs.Int.Signed.{mag}

unfoldable pub odd : ℕ → Bool
odd n = eqb (n % 2) 1

unfoldable pub is_negative : ℤ → Bool
is_negative (pos n) = false
is_negative (negsuc n) = true

-- negsuc n is -(n + 1), whose bits are the complements of those of n
unfoldable pub testbit : ℤ → ℕ → Bool
testbit (pos n) i = odd (n / 2 ^ i)
testbit (negsuc n) i = not (odd (n / 2 ^ i))

-- how often n is halved until it is 0; the first argument bounds the recursion, and n itself is enough
unfoldable pub halvings : ℕ → ℕ → ℕ
halvings zero n = zero
halvings (suc k) n = elim (eqb n 0) [ true ↦ zero | false ↦ suc (halvings k (n / 2)) ]

-- `mag x` is x, or not x where x < 0
unfoldable pub bit_length : ℤ → ℕ
bit_length x = halvings (mag x) (mag x)

unfoldable pub fits : ℕ → ℤ → Bool
fits w x = ltb (mag x) (2 ^ (w - 1))

unfoldable pub fill : Bool → ℤ
fill true = negsuc zero
fill false = pos zero

unfoldable pub cons_bit : Bool → ℤ → ℤ
cons_bit b (pos n) = pos (n * 2 + cond b 1 0)
cons_bit b (negsuc n) = negsuc (n * 2 + cond b 0 1)

unfoldable pub of_bits : ℕ → (ℕ → Bool) → ℤ → ℤ
of_bits zero f t = t
of_bits (suc k) f t = cons_bit (f zero) (of_bits k (λ i. f (suc i)) t)
