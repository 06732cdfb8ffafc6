-- `limbstages::check::check_new_bit` meets its contract. Assumes nothing.
use mathlib.Core.Bool.{not}
use native.Mathlib.Omega.{arith}
use mathlib.Core.Path.{◌≡◌, sym, ap, ap₂, ◌∙◌}
use lib.IntN.{ℤ, nat_abs}
use Rattle.words.proofs.WordLaws.{back, natural-mag, cast-word}
use Rattle.outcomes.specs.Outcome.{done, map_done}
use Rattle.outcomes.specs.Refusal.{outcome_of, code_of}
use Rattle.outcomes.proofs.OutcomeLaws.{passed-by, failed-by}
use Rattle.limbstages.specs.Inner.{new_bit_of}
use Rattle.limbstages.specs.Stages.{is_new_bit, new_bit}
use Rattle.limbstages.proofs.StageLaws.{legal, operand-ok, new-bit-numbers}
use Rattle.limbstages.proofs.check.check_new_bit.Goals as goal
use Rattle.limbstages.proofs.check.check_new_bit.Goals.{After-is_new_bit}

-- the test of the numbers
tested : (c : After-is_new_bit) → c.is_new_bit.result ≡ is_new_bit c.args.position c.args.bit
tested c = let f = c.ranges in rw (back f.position, back f.bit) at c.is_new_bit.ensures

pub returns-then-not-is_new_bit : goal.returns-then-not-is_new_bit
unfolding new_bit_of map_done outcome_of code_of new_bit
returns-then-not-is_new_bit c = sym ((operand-ok _ _ _ c.in_ok-check_operand.ensures).1 ∙ failed-by 5 _ (tested (goal.at.returns-then-not-is_new_bit c).After-is_new_bit) (ap not c.if-not-is_new_bit.true))

pub overflow_cast-result : goal.overflow_cast-result
overflow_cast-result c =
    let f = c.ranges.position in
    cast-word (back f ∙ natural-mag _ (new-bit-numbers _ _ (legal (tested (goal.at.overflow_cast-result c).After-is_new_bit) (ap not c.if-not-is_new_bit.false))).0.0) f.sfits

pub overflow_cast-result-2 : goal.overflow_cast-result-2
overflow_cast-result-2 c =
    let f = c.ranges.bit in
    let n = (new-bit-numbers _ _ (legal (tested (goal.at.overflow_cast-result-2 c).After-is_new_bit) (ap not c.if-not-is_new_bit.false))).1 in
    ((cast-word (back f ∙ natural-mag _ n.0) f.sfits).0, record { fits = omega (arith, ap nat_abs (back f), n.1) })

pub returns : goal.returns
unfolding new_bit_of map_done outcome_of new_bit
returns c =
    let f = c.ranges in
    ap₂ (λ (k b : ℤ). done (nat_abs k, nat_abs b)) (back f.position) (back f.bit)
    ∙ sym ((operand-ok _ _ _ c.in_ok-check_operand.ensures).1 ∙ passed-by 5 _ (tested (goal.at.returns c).After-is_new_bit) (ap not c.if-not-is_new_bit.false))

pub invariant_of-result : goal.invariant_of-result
invariant_of-result c =
    let f = c.ranges in
    let n = new-bit-numbers _ _ (legal (tested (goal.at.invariant_of-result c).After-is_new_bit) (ap not c.if-not-is_new_bit.false)) in
    let k = ap nat_abs (back f.position) in
    let b = ap nat_abs (back f.bit) in
    record { within = omega (arith, n.0.1); small = omega (arith, n.1.1) }
