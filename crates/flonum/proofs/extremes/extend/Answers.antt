-- `flonum::extremes::extend` meets its contract. Assumes nothing.
use Rattle.std.proofs.Common.{sym, ◌∙◌}
use Rattle.flonum.proofs.ExtremesLaws.{with-nan, with_number}
use Rattle.flonum.proofs.extremes.extend.Goals as goal

pub returns-then-is_nan : goal.returns-then-is_nan
returns-then-is_nan c =
    with-nan _ _ _ _ (sym c.is_nan.ensures.value ∙ c.if-is_nan.true) c.the_nan.ensures c.the_nan-then-is_nan.ensures

pub returns : goal.returns
returns c =
    with_number _ _ _ _ (sym c.is_nan.ensures.value ∙ c.if-is_nan.false) c.smaller.ensures c.larger.ensures
