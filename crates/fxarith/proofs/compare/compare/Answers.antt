-- `fxarith::compare::compare` meets its contract. Assumes nothing.
use Rattle.std.proofs.Common.{rules, ◌≡◌, ap, ◌∙◌, arith}
use Rattle.std.specs.Int.Signed.{le_z, lt_z}
use Rattle.fxtable.specs.Operations.{equal, greater, greater_or_equal}
use Rattle.fxtable.specs.Table.{rows, row_of}
use Rattle.fxarith.proofs.ChainLaws.{compared-outcome}
use Rattle.fxarith.proofs.compare.compare.Goals as goal

pub returns-in-1 : goal.returns-in-1
unfolding rows row_of equal
returns-in-1 c =
    c.question.ensures ∙ compared-outcome _ equal (ap row_of c.in-1.is) _ _ (rw c.slots-args.ensures at (c.chain.ensures equal (λ x y r h k p. search rules)))

pub returns-in-2 : goal.returns-in-2
unfolding rows row_of greater
returns-in-2 c =
    c.question-in-2.ensures ∙ compared-outcome _ greater (ap row_of c.in-2.is) _ _ (rw c.slots-args.ensures at (c.chain-in-2.ensures greater (λ x y r h k p. search rules)))

pub returns-in-3 : goal.returns-in-3
unfolding rows row_of
returns-in-3 c =
    c.question-in-3.ensures ∙ compared-outcome _ lt_z (ap row_of c.in-3.is) _ _ (rw c.slots-args.ensures at (c.chain-in-3.ensures lt_z (λ x y r h k p. search rules)))

pub returns-in-4 : goal.returns-in-4
unfolding rows row_of greater_or_equal
returns-in-4 c =
    c.question-in-4.ensures
    ∙ compared-outcome _ greater_or_equal (ap row_of c.in-4.is) _ _ (rw c.slots-args.ensures at (c.chain-in-4.ensures greater_or_equal (λ x y r h k p. search rules)))

pub returns-in_default : goal.returns-in_default
unfolding rows row_of
returns-in_default c =
    let e : c.args.call.code ≡ 5 = omega arith in
    c.question-in_default.ensures
    ∙ compared-outcome _ le_z (ap row_of e) _ _ (rw c.slots-args.ensures at (c.chain-in_default.ensures le_z (λ x y r h k p. search rules)))
