-- `fxstages::overflow::checked` meets its contract. Assumes nothing.
use native.Mathlib.Omega.{arith}
use mathlib.Core.Path.{sym, ◌∙◌}
use Rattle.words.proofs.WordLaws.{back}
use Rattle.fxtable.proofs.CallLaws.{width-bounds, fits_word, done-cong, checked-fits, checked-large}
use Rattle.fxstages.proofs.overflow.checked.Goals as goal

pub absolute_fits-requires : goal.absolute_fits-requires
absolute_fits-requires g c = let b = width-bounds c.args.width c.requires.width_value in omega arith

pub from_absolute-requires : goal.from_absolute-requires
from_absolute-requires g c =
    fits_word c.args.width _ c.requires.width_value (sym c.absolute_fits.ensures ∙ c.if-absolute_fits.true)

pub returns-then-absolute_fits : goal.returns-then-absolute_fits
returns-then-absolute_fits g c = (
  c.into-overflow.result,
  c.into-overflow.ensures,
  c.done.ensures
      ∙ done-cong (back (record { sfits = c.from_absolute.type_inv }) ∙ c.from_absolute.ensures) (back c.ranges.second)
      ∙ sym (checked-fits c.into-overflow.result c.args.width _ _ (sym c.absolute_fits.ensures ∙ c.if-absolute_fits.true)),
)

pub returns-else-absolute_fits : goal.returns-else-absolute_fits
returns-else-absolute_fits g c =
    let (k, same, refused) = c.refuse.ensures in (
      c.into-overflow.result,
      c.into-overflow.ensures,
      (rw same at refused)
          ∙ sym (checked-large c.into-overflow.result c.args.width _ _ (c.requires.number _ c.into-overflow.ensures) (sym c.absolute_fits.ensures ∙ c.if-absolute_fits.false)),
    )
