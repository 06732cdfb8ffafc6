-- `rulevalues::evaluate_constant` meets its contract. Assumes nothing.
use native.Mathlib.Omega.{arith}
use lib.ListN.{drop, get_or}
use mir.Syntax.{w64}
use mir.Val.{SFits}
use mir.ValLaws.{to_z-of_z, to_z_pos}
use borrow.Author.Rules.{rules}
use Rattle.std.specs.Prelude.{Ok}
use Rattle.rules.specs.Parse.{read_constant}
use Rattle.rulereader.specs.Placed.{ConstantRead}
use Rattle.rulevalues.proofs.ConstantAgain.{constant-inside, small-constant, constant-evaluated, is_ok}
use Rattle.rulevalues.proofs.evaluate_constant.Goals as goal

pub bounds-s-at : goal.bounds-s-at
bounds-s-at c =
    constant-inside c.args.s.now c.args.at c.requires.1

pub overflow_add-result : goal.overflow_add-result
overflow_add-result c =
    let inside = constant-inside c.args.s.now c.args.at c.requires.1 in
    search rules

pub returns-then-b-lt64 : goal.returns-then-b-lt64
returns-then-b-lt64 c =
    let a = c.args in
    rw c.from.ensures
    (small-constant a.width a.s.now a.at c.requires.0 (constant-inside a.s.now a.at c.requires.1) c.if-b-lt64.true _ (to_z_pos w64 (get_or a.s.now a.at 0) (omega (arith, c.if-b-lt64.true))))

pub read_constant-requires : goal.read_constant-requires
read_constant-requires c =
    let inside = constant-inside c.args.s.now c.args.at c.requires.1 in
    omega (arith, inside)

pub unwrap-value-requires : goal.unwrap-value-requires
unwrap-value-requires c = is_ok c.args.width c.args.s.now c.args.at c.requires.1 _ c.read_constant.ensures

pub returns : goal.returns
returns c =
    let a = c.args in
    let fits : SFits w64 c.unwrap-value.result.0 = search rules in
    let h : ConstantRead a.s.now (read_constant (drop a.at a.s.now)) (Ok c.unwrap-value.result) = rw c.unwrap-value.ensures at c.read_constant.ensures in
    rw (c.evaluate_leaf.ensures, to_z-of_z w64 c.unwrap-value.result.0 fits) (constant-evaluated a.width a.s.now a.at _ _ h)
