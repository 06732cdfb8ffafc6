-- Arithmetic shifts of R6RS's (rnrs arithmetic bitwise): floor (x * 2^d).
--   floor_div x m             ==  the greatest integer that is at most x / m, for m > 0
--   shift_left x k            ==  bitwise-arithmetic-shift-left: x * 2^k
--   shift_right x k           ==  bitwise-arithmetic-shift-right: floor (x / 2^k)
--   arithmetic_shift x d      ==  bitwise-arithmetic-shift: floor (x * 2^d), d of either sign
use Rattle.std.specs.Prelude.{ℕ, suc, ◌/◌, ◌^◌, ℤ, pos, negsuc, ◌*ℤ◌}

-- negsuc n is -(n + 1), and -(n + 1) / m lies from -(n / m) - 1 up to, but not at, -(n / m)
unfoldable pub floor_div : ℤ → ℕ → ℤ
floor_div (pos n) m = pos (n / m)
floor_div (negsuc n) m = negsuc (n / m)

unfoldable pub shift_left : ℤ → ℕ → ℤ
shift_left x k = x *ℤ pos (2 ^ k)

unfoldable pub shift_right : ℤ → ℕ → ℤ
shift_right x k = floor_div x (2 ^ k)

unfoldable pub arithmetic_shift : ℤ → ℤ → ℤ
arithmetic_shift x (pos k) = shift_left x k
arithmetic_shift x (negsuc k) = shift_right x (suc k)
