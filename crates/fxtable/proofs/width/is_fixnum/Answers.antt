-- `fxtable::width::is_fixnum` meets its contract. Assumes nothing.
use native.Mathlib.Omega.{arith}
use mathlib.Core.Path.{sym, ap, ◌∙◌}
use Rattle.bits.specs.Testbit.{fits}
use Rattle.bits.proofs.Booleans.{and_first, and_second}
use Rattle.words.proofs.WordLaws.{back}
use Rattle.fxtable.proofs.CallLaws.{width-bounds}
use Rattle.fxtable.proofs.width.is_fixnum.Goals as goal

pub is_fixnum-requires : goal.is_fixnum-requires
is_fixnum-requires c = let b = width-bounds _ (sym c.is_width.ensures ∙ c.if-is_width.true) in omega arith

pub returns-then-is_width : goal.returns-then-is_width
returns-then-is_width c =
    c.is_fixnum.ensures
    ∙ ap (fits c.args.width) (back c.ranges.x)
    ∙ and_second _ _ (sym c.is_width.ensures ∙ c.if-is_width.true)

pub returns-else-is_width : goal.returns-else-is_width
returns-else-is_width c = let no = sym c.is_width.ensures ∙ c.if-is_width.false in sym no ∙ and_first _ _ no
