-- An integer of two words that wraps. No public call's contract cites it.
--   double_word d        ==  high * 2^64 + low
use Rattle.std.specs.Prelude.{ℕ, ◌+◌, ◌*◌, ◌^◌}
use Rattle.widewords.specs.declared.double.Double.{Double}

unfoldable pub double_word : Double → ℕ
double_word d = d.high * 2 ^ 64 + d.low
