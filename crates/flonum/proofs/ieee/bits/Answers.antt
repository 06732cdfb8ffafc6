-- `flonum::ieee::bits` meets its contract. Assumes nothing.
use Rattle.std.proofs.Common.{sym, ap}
use lib.Ieee.{to_bits, binary64}
use Rattle.flonum.proofs.NanLaws.{its-nan, no_nan}
use Rattle.flonum.proofs.ieee.bits.Goals as goal

pub float_to_bits-result : goal.float_to_bits-result
float_to_bits-result c = no_nan c.is_nan.result c.args.x c.is_nan.ensures.value c.if-is_nan.false

pub returns-then-is_nan : goal.returns-then-is_nan
unfolding to_bits
returns-then-is_nan c = ap (to_bits binary64) (sym (its-nan c.is_nan.result c.args.x c.is_nan.ensures.value c.if-is_nan.true))
