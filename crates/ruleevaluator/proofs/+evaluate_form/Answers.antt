-- `ruleevaluator::evaluate_form` meets its contract. Assumes nothing.
use native.Mathlib.Omega.{arith}
use native.Mathlib.Nat.{pos_of_ne-zero}
use mathlib.Core.Path.{refl}
use mathlib.Core.List.{[], ◌∷◌}
use lib.IntN.{pos}
use lib.ListN.{get_or}
use mir.Syntax.{w64}
use mir.Val.{SFits, to_z, of_z}
use mir.ValLaws.{to_z-of_z}
use borrow.Author.Rules.{rules}
use Rattle.rulereader.proofs.Exits.{err_of}
use Rattle.rulevalues.proofs.ArgumentLaws.{form-inside, constant-has, is-constant, second-inside, input-facts, is-input, call_facts}
use Rattle.rulevalues.proofs.ArgumentLaws.{begins, next-has, next-value, next-refused, all-evaluated, ready, one-result}
use Rattle.ruleevaluator.proofs.+evaluate_form.Goals as goal

pub bounds-s-at : goal.bounds-s-at
bounds-s-at t c =
    let a = c.args in
    form-inside a.width a.inputs.now a.s.now a.at a.depth c.requires.has

pub overflow_add-at : goal.overflow_add-at
overflow_add-at t c =
    let a = c.args in
    let inside = form-inside a.width a.inputs.now a.s.now a.at a.depth c.requires.has in
    search rules

pub evaluate_constant-requires : goal.evaluate_constant-requires
evaluate_constant-requires t c =
    let a = c.args in
    (c.requires.width_value.0, constant-has a.width a.inputs.now a.s.now a.at a.depth c.requires.has c.if-tag-eq0.true)

pub returns-then-tag-eq0 : goal.returns-then-tag-eq0
returns-then-tag-eq0 t c =
    let a = c.args in
    is-constant a.width a.inputs.now a.s.now a.at a.depth c.if-tag-eq0.true c.evaluate_constant.result c.evaluate_constant.ensures

pub bounds-s-at-2 : goal.bounds-s-at-2
bounds-s-at-2 t c =
    let a = c.args in
    second-inside a.width a.inputs.now a.s.now a.at a.depth c.requires.has c.if-tag-eq0.false

pub bounds-inputs-from : goal.bounds-inputs-from
bounds-inputs-from t c =
    let a = c.args in
    let f = input-facts a.width a.inputs.now a.s.now a.at a.depth c.requires.has c.if-tag-eq1.true in
    omega (arith, f.0, c.requires.width_value.1, c.from.ensures)

pub returns-then-tag-eq1 : goal.returns-then-tag-eq1
returns-then-tag-eq1 t c =
    let a = c.args in
    let fits : SFits w64 (get_or a.inputs.now c.from.result (pos 0)) = search rules in
    rw (c.evaluate_leaf.ensures, to_z-of_z w64 (get_or a.inputs.now c.from.result (pos 0)) fits, c.from.ensures)
    (is-input a.width a.inputs.now a.s.now a.at a.depth c.requires.has c.if-tag-eq1.true)

pub bounds-s-at-3 : goal.bounds-s-at-3
bounds-s-at-3 t c =
    let a = c.args in
    (call_facts a.width a.inputs.now a.s.now a.at a.depth c.requires.has c.if-tag-eq0.false c.if-tag-eq1.false).1

pub loop-i-init : goal.loop-i-init
loop-i-init t c =
    let a = c.args in
    begins a.width a.inputs.now a.s.now a.at a.depth c.requires.has c.if-tag-eq0.false c.if-tag-eq1.false (pos 0 ∷ pos 0 ∷ pos 0 ∷ pos 0 ∷ []) refl

pub overflow_sub-depth : goal.overflow_sub-depth
overflow_sub-depth t c =
    let a = c.args in
    let f = call_facts a.width a.inputs.now a.s.now a.at a.depth c.requires.has c.if-tag-eq0.false c.if-tag-eq1.false in
    pos_of_ne-zero f.0

pub evaluate_form-requires : goal.evaluate_form-requires
evaluate_form-requires t c =
    let a = c.args in
    let f = call_facts a.width a.inputs.now a.s.now a.at a.depth c.requires.has c.if-tag-eq0.false c.if-tag-eq1.false in
    (omega (arith, pos_of_ne-zero f.0, c.decreases), (next-has c.loop-i.invariant (rw c.from-i-end.ensures at c.loop-i-test.true), c.requires.width_value))

pub returns-in_err-value : goal.returns-in_err-value
returns-in_err-value t c = rw (err_of _ _ c.from_residual.ensures.1) (next-refused c.loop-i.invariant (rw c.from-i-end.ensures at c.loop-i-test.true) _ c.in_err-value.ensures)

pub bounds-values-i : goal.bounds-values-i
bounds-values-i t c =
    let a = c.args in
    let f = call_facts a.width a.inputs.now a.s.now a.at a.depth c.requires.has c.if-tag-eq0.false c.if-tag-eq1.false in
    omega (arith, f.2, c.loop-i-test.true, c.from-i-end.ensures)

pub loop-i-preserved : goal.loop-i-preserved
loop-i-preserved t c =
    let a = c.args in
    let f = call_facts a.width a.inputs.now a.s.now a.at a.depth c.requires.has c.if-tag-eq0.false c.if-tag-eq1.false in
    let fits : SFits w64 c.in_ok-value.value = search rules in
    next-value c.loop-i.invariant (rw c.from-i-end.ensures at c.loop-i-test.true) c.in_ok-value.value c.in_ok-value.end c.in_ok-value.ensures
    (to_z w64 (of_z w64 c.in_ok-value.value)) (to_z-of_z w64 c.in_ok-value.value fits) (omega (arith, f.2, c.loop-i-test.true, c.from-i-end.ensures))

pub evaluate_call-requires : goal.evaluate_call-requires
evaluate_call-requires t c =
    let l = c.loop-i.invariant in
    rw (c.from-2.ensures, c.from-3.ensures) (record { checked = ready l c.requires.width_value.0 (rw c.from-i-end.ensures at c.loop-i-test.false); code_value = one-result l })

pub returns : goal.returns
returns t c = rw (c.evaluate_call.ensures, c.from-2.ensures, c.from-3.ensures) (all-evaluated c.loop-i.invariant (rw c.from-i-end.ensures at c.loop-i-test.false))
