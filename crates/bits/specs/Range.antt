-- Ranges of integers.
--   within a x b         ==  a <= x <= b
use Rattle.std.specs.Prelude.{Bool, ◌&&◌, ℤ}
use Rattle.std.specs.Int.Signed.{le_z}

unfoldable pub within : ℤ → ℤ → ℤ → Bool
within a x b = le_z a x && le_z x b
