-- An integer from its sign and a natural number.
--   with_sign negative n      ==  n or -n: sign and absolute value
--   of_magnitude negative m   ==  m or not m, which is -(m + 1): sign and magnitude, `mag`
use Rattle.std.specs.Prelude.{ℕ, Bool, cond, ℤ, pos, negsuc, neg_ℤ}

unfoldable pub with_sign : Bool → ℕ → ℤ
with_sign negative n = cond negative (neg_ℤ (pos n)) (pos n)

unfoldable pub of_magnitude : Bool → ℕ → ℤ
of_magnitude negative m = cond negative (negsuc m) (pos m)
