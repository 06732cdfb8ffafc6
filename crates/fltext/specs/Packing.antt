-- The bits of the flonum nearest to a number, from twice the number in units of the smallest flonum, 2^-1074.
--   rounded_up q half rest  ==  q, or the next number: where a half and more is left, or just a half and q is odd
--   packed s k q           ==  the bits of q * 2^k units with a sign, for a q up to 2^53 that is 2^52 at least or k = 0; those of an infinity from k = 2046 on
--   nonzero n              ==  whether n is not 0
--   dropped n              ==  how many bits are taken off n / 2, so that 53 at most are left
--   nearest_bits s n rest   ==  the bits of the flonum nearest to n / 2 units, where rest tells whether something is left below n
--   quotient_bits s n d     ==  the bits of the flonum nearest to n / d, with a sign
use Rattle.std.specs.Prelude.{ℕ, ◌+◌, ◌-◌, ◌*◌, ◌/◌, ◌%◌, ◌^◌, Bool, not, cond, ◌&&◌, ◌||◌, eqb, ltb}
use Rattle.std.specs.Float.Ieee.{size}

unfoldable pub nonzero : ℕ → Bool
nonzero n = not (eqb n 0)

unfoldable pub rounded_up : ℕ → Bool → Bool → ℕ
rounded_up q half rest = q + cond (half && (rest || eqb (q % 2) 1)) 1 0

unfoldable pub packed : Bool → ℕ → ℕ → ℕ
packed s k q = cond s (2 ^ 63) 0 + cond (ltb k 2046) (k * 2 ^ 52 + q) (2047 * 2 ^ 52)

unfoldable pub dropped : ℕ → ℕ
dropped n = size (n / 2) - 53

unfoldable pub nearest_bits : Bool → ℕ → Bool → ℕ
nearest_bits s n rest =
    let k = dropped n in
    packed s k (rounded_up (n / 2 / 2 ^ k) (nonzero (n / 2 ^ k % 2)) (rest || nonzero (n % 2 ^ k)))

unfoldable pub quotient_bits : Bool → ℕ → ℕ → ℕ
quotient_bits s n d = nearest_bits s (n * 2 ^ 1075 / d) (nonzero (n * 2 ^ 1075 % d))
