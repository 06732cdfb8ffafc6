-- R6RS's two pairs of quotient and remainder, for a divisor y that is not 0.
--   div x y, mod x y         ==  q and m with x = q y + m and 0 <= m < |y|
--   div0 x y, mod0 x y       ==  q and m with x = q y + m and -|y| <= 2 m < |y|
-- No other q and m satisfy these: the laws say so. (`mod` is a word of antt, so the name is written «mod».)
use Rattle.std.specs.Prelude.{ℕ, suc, ◌-◌, ◌/◌, ◌%◌, ℤ, pos, negsuc, neg_ℤ, nat_abs, ◌+ℤ◌, ◌-ℤ◌}
use Rattle.bits.specs.Shift.{floor_div}

unfoldable pub div : ℤ → ℤ → ℤ
div x (pos m) = floor_div x m
div x (negsuc m) = neg_ℤ (floor_div x (suc m))

-- the remainder by m > 0, as a natural number
unfoldable pub mod_ℕ : ℤ → ℕ → ℕ
mod_ℕ (pos n) m = n % m
mod_ℕ (negsuc n) m = m - suc (n % m)

unfoldable pub «mod» : ℤ → ℤ → ℤ
«mod» x y = pos (mod_ℕ x (nat_abs y))

unfoldable pub div0 : ℤ → ℤ → ℤ
div0 x y = div (x +ℤ pos (nat_abs y / 2)) y

unfoldable pub mod0 : ℤ → ℤ → ℤ
mod0 x y = «mod» (x +ℤ pos (nat_abs y / 2)) y -ℤ pos (nat_abs y / 2)
