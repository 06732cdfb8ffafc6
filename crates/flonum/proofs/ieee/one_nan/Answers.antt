-- `flonum::ieee::one_nan` meets its contract. Assumes nothing.
use Rattle.std.proofs.Common.{sym, ◌∙◌}
use Rattle.flonum.proofs.NanLaws.{its-nan}
use Rattle.flonum.proofs.ieee.one_nan.Goals as goal

pub returns-then-is_nan : goal.returns-then-is_nan
returns-then-is_nan c = c.the_nan.ensures ∙ sym (its-nan c.is_nan.result c.args.x c.is_nan.ensures.value c.if-is_nan.true)
