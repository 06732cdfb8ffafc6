-- An integer of two words with a sign. No public call's contract cites it.
--   wide_value s      ==  high * 2^64 + low, or the negative of that
use Rattle.std.specs.Prelude.{◌+◌, ◌*◌, ◌^◌, ℤ}
use Rattle.words.specs.Sign.{with_sign}
use Rattle.widewords.specs.declared.wide.Wide.{Wide}

unfoldable pub wide_value : Wide → ℤ
wide_value s = with_sign s.negative (s.high * 2 ^ 64 + s.low)
