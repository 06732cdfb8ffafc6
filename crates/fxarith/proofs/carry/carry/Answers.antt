-- `fxarith::carry::carry` meets its contract. Assumes nothing.
use native.Mathlib.Omega.{arith}
use mathlib.Core.Path.{◌≡◌, ap, ◌∙◌}
use lib.Dec.{lit<}
use lib.IntN.{◌+ℤ◌, ◌-ℤ◌, ◌*ℤ◌}
use Rattle.words.proofs.WordLaws.{back-word}
use Rattle.fxtable.specs.Domains.{arg}
use Rattle.fxtable.specs.Table.{rows, row_of}
use Rattle.fxtable.proofs.CarryLaws.{sum-parts-fit, difference-parts-fit, product-parts-fit}
use Rattle.fxarith.proofs.CarryLaws.{each_fits, carry-answer}
use Rattle.fxarith.proofs.carry.carry.Goals as goal

pub returns-in-22 : goal.returns-in-22
unfolding rows row_of arg
returns-in-22 c =
    c.parts.ensures _ (record {
      words = cc (c.sum.ensures, back-word (arg c.args.call.args 0) (omega arith), back-word (arg c.args.call.args 1) (omega arith), back-word (arg c.args.call.args 2) (omega arith));
      high = (sum-parts-fit _ c.args.call.accepted.width _ _ _ (each_fits c.requires c.args.call.accepted 0 (lit< tt)) (each_fits c.requires c.args.call.accepted 1 (lit< tt)) (each_fits c.requires c.args.call.accepted 2 (lit< tt))).1;
    })
    ∙ carry-answer (λ x y z. (x +ℤ y) +ℤ z) (ap row_of c.in-22.is) c.args.call.accepted

pub returns-in-23 : goal.returns-in-23
unfolding rows row_of arg
returns-in-23 c =
    c.parts-in-23.ensures _ (record {
      words = cc (c.difference.ensures, back-word (arg c.args.call.args 0) (omega arith), back-word (arg c.args.call.args 1) (omega arith), back-word (arg c.args.call.args 2) (omega arith));
      high = (difference-parts-fit _ c.args.call.accepted.width _ _ _ (each_fits c.requires c.args.call.accepted 0 (lit< tt)) (each_fits c.requires c.args.call.accepted 1 (lit< tt)) (each_fits c.requires c.args.call.accepted 2 (lit< tt))).1;
    })
    ∙ carry-answer (λ x y z. (x -ℤ y) -ℤ z) (ap row_of c.in-23.is) c.args.call.accepted

pub returns-in_default : goal.returns-in_default
unfolding rows row_of arg
returns-in_default c =
    let e : c.args.call.code ≡ 24 = omega arith in
    c.parts-in_default.ensures _ (record {
      words = cc (c.product_and.ensures, back-word (arg c.args.call.args 0) (omega arith), back-word (arg c.args.call.args 1) (omega arith), back-word (arg c.args.call.args 2) (omega arith));
      high = (product-parts-fit _ c.args.call.accepted.width _ _ _ (each_fits c.requires c.args.call.accepted 0 (lit< tt)) (each_fits c.requires c.args.call.accepted 1 (lit< tt)) (each_fits c.requires c.args.call.accepted 2 (lit< tt))).1;
    })
    ∙ carry-answer (λ x y z. (x *ℤ y) +ℤ z) (ap row_of e) c.args.call.accepted
