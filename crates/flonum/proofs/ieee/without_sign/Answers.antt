-- `flonum::ieee::without_sign` meets its contract. Assumes nothing.
use Rattle.std.proofs.Common.{sym, ap, ◌∙◌, rules}
use Rattle.flonum.specs.Rounding.{clear_sign}
use Rattle.flonum.proofs.NanLaws.{its-nan, no_nan, cleared, cleared-no-nan}
use Rattle.flonum.proofs.ieee.without_sign.Goals as goal

pub float_to_bits-result : goal.float_to_bits-result
float_to_bits-result c = no_nan c.is_nan.result c.args.x c.is_nan.ensures.value c.if-is_nan.false

pub float_from_bits-result : goal.float_from_bits-result
float_from_bits-result c = cleared-no-nan c.args.x (search rules) (no_nan c.is_nan.result c.args.x c.is_nan.ensures.value c.if-is_nan.false)

pub returns-then-is_nan : goal.returns-then-is_nan
unfolding clear_sign
returns-then-is_nan c = c.the_nan.ensures ∙ ap clear_sign (sym (its-nan c.is_nan.result c.args.x c.is_nan.ensures.value c.if-is_nan.true))

pub returns-else-is_nan : goal.returns-else-is_nan
returns-else-is_nan c = cleared c.args.x (search rules)
