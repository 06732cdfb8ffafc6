-- `limbstages::check::field` meets its contract. Assumes nothing.
use mathlib.Core.Bool.{not, false}
use mathlib.Core.Path.{◌≡◌, sym, ap, ap₂, ◌∙◌}
use native.Mathlib.Omega.{arith}
use lib.IntN.{ℤ, nat_abs}
use Rattle.words.proofs.WordLaws.{back, natural-mag, cast-word}
use Rattle.outcomes.specs.Outcome.{done, map_done}
use Rattle.outcomes.specs.Refusal.{outcome_of, code_of}
use Rattle.outcomes.proofs.OutcomeLaws.{passed-by, failed-by}
use Rattle.limbstages.specs.Inner.{field_of}
use Rattle.limbstages.specs.Stages.{is_field, field}
use Rattle.limbstages.proofs.StageLaws.{legal, FieldNumbers, field-numbers}
use Rattle.limbstages.proofs.check.field.Goals as goal
use Rattle.limbstages.proofs.check.field.Goals.{After-is_field, Else-not-is_field}

-- the test of the field, on the numbers
tested : (c : After-is_field) → c.is_field.result ≡ is_field c.args.start c.args.end
tested c = let f = c.ranges in rw (back f.start, back f.end) at c.is_field.ensures

numbers : (c : After-is_field) → not c.is_field.result ≡ false → FieldNumbers c.args.start c.args.end
numbers c n = field-numbers _ _ (legal (tested c) n)

pub returns-then-not-is_field : goal.returns-then-not-is_field
unfolding field_of map_done outcome_of code_of field
returns-then-not-is_field c = sym (failed-by 5 _ (tested (goal.at.returns-then-not-is_field c).After-is_field) (ap not c.if-not-is_field.true))

pub returns : goal.returns
unfolding field_of map_done outcome_of field
returns c =
    let f = c.ranges in
    ap₂ (λ (s e : ℤ). done (nat_abs s, nat_abs e)) (back f.start) (back f.end)
    ∙ sym (passed-by 5 _ (tested (goal.at.returns c).After-is_field) (ap not c.if-not-is_field.false))

pub overflow_cast-result : goal.overflow_cast-result
overflow_cast-result c = let f = c.ranges.start in cast-word (back f ∙ natural-mag _ (numbers (goal.at.overflow_cast-result c).After-is_field (ap not c.if-not-is_field.false)).from) f.sfits

pub overflow_cast-result-2 : goal.overflow_cast-result-2
overflow_cast-result-2 c = let f = c.ranges.end in cast-word (back f ∙ natural-mag _ (numbers (goal.at.overflow_cast-result-2 c).After-is_field (ap not c.if-not-is_field.false)).to) f.sfits

pub invariant_of-result : goal.invariant_of-result
invariant_of-result c =
    let f = c.ranges in
    let n = numbers (goal.at.invariant_of-result c).After-is_field (ap not c.if-not-is_field.false) in
    let s = ap nat_abs (back f.start) in
    let e = ap nat_abs (back f.end) in
    record { ordered = omega (arith, n.order); within = omega (arith, n.last) }
