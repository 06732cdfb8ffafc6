-- A limb that only continues the one below it. No public call's contract cites this.
--   continued n          ==  the limb that continues the top bit of the limb n
use Rattle.std.specs.Prelude.{ℕ, cond, not, ltb}

unfoldable pub continued : ℕ → ℕ
continued n = cond (not (ltb n 0x80000000)) 0xFFFFFFFF 0
