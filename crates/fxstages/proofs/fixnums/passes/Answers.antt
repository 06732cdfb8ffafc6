-- `fxstages::fixnums::passes` meets its contract. Assumes nothing.
use native.Mathlib.Omega.{arith}
use mathlib.Core.Path.{sym, ap, ◌∙◌}
use Rattle.bits.specs.Testbit.{fits}
use Rattle.words.proofs.WordLaws.{back}
use Rattle.fxtable.specs.Domains.{arg}
use Rattle.fxtable.proofs.CallLaws.{width-bounds, arg-counted}
use Rattle.fxstages.proofs.FixnumLaws.{uncounted}
use Rattle.fxstages.proofs.fixnums.passes.Goals as goal

pub returns-then-count-i : goal.returns-then-count-i
returns-then-count-i c = let a = c.args in sym (uncounted a.width a.args a.count a.i c.if-count-i.true)

pub is_fixnum-requires : goal.is_fixnum-requires
is_fixnum-requires c = let b = width-bounds c.args.width c.requires.0 in omega arith

pub returns : goal.returns
unfolding arg
returns c =
    let a = c.args in
    c.is_fixnum.ensures
    ∙ ap (fits a.width) (back (record { sfits = omega arith }) ∙ sym (arg-counted a.args a.count a.i c.if-count-i.false))
