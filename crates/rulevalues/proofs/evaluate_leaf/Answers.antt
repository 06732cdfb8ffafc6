-- `rulevalues::evaluate_leaf` meets its contract. Assumes nothing.
use native.Mathlib.Omega.{arith}
use mathlib.Core.Path.{sym, ap, ◌∙◌}
use mir.Syntax.{w64}
use mir.ValLaws.{to_z-of_z}
use Rattle.bits.specs.Testbit.{fits}
use Rattle.fxtable.proofs.CallLaws.{width-bounds}
use Rattle.outcomes.specs.Refusal.{code_of}
use Rattle.rulevalues.proofs.AnswerLaws.{leaf-value, leaf-refused}
use Rattle.rulevalues.proofs.evaluate_leaf.Goals as goal

pub is_fixnum-requires : goal.is_fixnum-requires
is_fixnum-requires c =
    let b = width-bounds c.args.width c.requires in
    (omega (arith, b), omega (arith, b))

pub returns-then-is_fixnum : goal.returns-then-is_fixnum
returns-then-is_fixnum c =
    let a = c.args in
    let z = to_z-of_z w64 a.z c.ranges.z in
    leaf-value a.width a.z a.p _ z (ap (fits a.width) (sym z) ∙ sym c.is_fixnum.ensures ∙ c.if-is_fixnum.true)

pub returns-else-is_fixnum : goal.returns-else-is_fixnum
unfolding code_of
returns-else-is_fixnum c =
    let a = c.args in
    let z = to_z-of_z w64 a.z c.ranges.z in
    rw c.from.ensures (leaf-refused a.width a.z a.p (ap (fits a.width) (sym z) ∙ sym c.is_fixnum.ensures ∙ c.if-is_fixnum.false))
