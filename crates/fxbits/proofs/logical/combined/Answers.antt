-- `fxbits::logical::combined` meets its contract. Assumes nothing.
use Rattle.std.proofs.Common.{rules, ◌≡◌, ap, arith, ◌&&◌, ◌||◌, pos, negsuc}
use mathlib.Core.Bool.{xor}
use Rattle.bits.specs.Testbit.{fill}
use Rattle.bits.specs.Logical.{bitwise_and, bitwise_ior, bitwise_xor, bitwise_all, bitwise_ands, bitwise_iors, bitwise_xors}
use Rattle.fxtable.specs.Table.{rows, row_of}
use Rattle.fxtable.proofs.TableLaws.{at-most-four}
use Rattle.fxstages.proofs.LoopLaws.{from-fold, fold-answer}
use Rattle.fxbits.proofs.logical.combined.Goals as goal

pub fold_all-requires-clause-few : goal.fold_all-requires-clause-few
fold_all-requires-clause-few c = at-most-four c.args.call.code c.args.call.count c.args.call.accepted.arity

pub fold_all-requires-in-27-clause-few : goal.fold_all-requires-in-27-clause-few
fold_all-requires-in-27-clause-few c = at-most-four c.args.call.code c.args.call.count c.args.call.accepted.arity

pub fold_all-requires-in_default-clause-few : goal.fold_all-requires-in_default-clause-few
fold_all-requires-in_default-clause-few c = at-most-four c.args.call.code c.args.call.count c.args.call.accepted.arity

pub returns-in-26 : goal.returns-in-26
unfolding rows row_of bitwise_ands bitwise_all fill bitwise_and
returns-in-26 c =
    fold-answer bitwise_ands bitwise_and (negsuc 0) _ _ _ (ap row_of c.in-26.is) (from-fold ◌&&◌ (negsuc 0) _) c.done.ensures c.fold_all.type_inv
    (rw c.slots-args.ensures at (c.fold_all.ensures bitwise_and (λ x y r h k p. search rules)))

pub returns-in-27 : goal.returns-in-27
unfolding rows row_of bitwise_iors bitwise_all fill bitwise_ior
returns-in-27 c =
    fold-answer bitwise_iors bitwise_ior (pos 0) _ _ _ (ap row_of c.in-27.is) (from-fold ◌||◌ (pos 0) _) c.done-in-27.ensures c.fold_all-in-27.type_inv
    (rw c.slots-args.ensures at (c.fold_all-in-27.ensures bitwise_ior (λ x y r h k p. search rules)))

pub returns-in_default : goal.returns-in_default
unfolding rows row_of bitwise_xors bitwise_all fill bitwise_xor
returns-in_default c =
    let e : c.args.call.code ≡ 28 = omega arith in
    fold-answer bitwise_xors bitwise_xor (pos 0) _ _ _ (ap row_of e) (from-fold xor (pos 0) _) c.done-in_default.ensures c.fold_all-in_default.type_inv
    (rw c.slots-args.ensures at (c.fold_all-in_default.ensures bitwise_xor (λ x y r h k p. search rules)))
