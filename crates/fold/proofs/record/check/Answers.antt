-- `fold::record::check` meets its contract: its stages are those of code 40. Assumes nothing.
use native.Mathlib.Omega.{arith}
use mathlib.Core.Path.{◌≡◌, sym, ap, ◌∙◌}
use mathlib.Core.Bool.{true}
use Prim.Native.Nat.{ℕ, ◌<◌, ◌^◌}
use mathlib.Core.List.{[], ◌∷◌}
use lib.IntN.{pos}
use lib.Dec.{eqb}
use lib.Signed.{mag}
use mir.Syntax.{w64}
use mir.Val.{to_z, of_z}
use Rattle.words.proofs.WordLaws.{back-word}
use Rattle.outcomes.specs.Outcome.{refused, done}
use Rattle.outcomes.specs.Tests.{first_failed, guard_each}
use Rattle.outcomes.proofs.OutcomeLaws.{passed, failed}
use Rattle.outcomes.proofs.TestLaws.{none-failed, some-failed, passed-each, failed-each}
use Rattle.fxtable.specs.declared.answer.Answer.{Answer}
use Rattle.fxtable.specs.Domains.{is_width, domain_tests}
use Rattle.fxtable.specs.Table.{row_of}
use Rattle.fxtable.specs.Calls.{answer, counted, fixnum_tests}
use Rattle.fold.specs.declared.Fold.{Fold}
use Rattle.outcomes.specs.Refusal.{code_of}
use Rattle.fold.specs.Fold.{fields, rotation, is_open}
use Rattle.fold.specs.Calls.{opened, opened_as}
use Rattle.fold.proofs.OpenLaws.{rotated, rotation-stages}
use Rattle.fold.proofs.record.check.Goals as goal

-- the first field that is no fixnum, as the code asks for it in an array that it makes of the record's fields
fixnums : (f : Fold) {place : ℕ} → mag f.start < 2 ^ 63 → mag f.end < 2 ^ 63 → mag f.count < 2 ^ 63 → mag f.accumulator < 2 ^ 63
    → place ≡ first_failed (fixnum_tests f.width (counted (to_z w64 (of_z w64 f.accumulator) ∷ to_z w64 (of_z w64 f.start) ∷ to_z w64 (of_z w64 f.end) ∷ to_z w64 (of_z w64 f.count) ∷ []) 4))
    → place ≡ first_failed (fixnum_tests f.width (fields f))
unfolding counted
fixnums f s e n a h = rw (back-word f.accumulator a, back-word f.start s, back-word f.end e, back-word f.count n) at h

-- what is left of the stages, once the width and the fixnums are passed
domains-left : (f : Fold) → is_width f.width ≡ true → first_failed (fixnum_tests f.width (fields f)) ≡ 0
    → rotation f ≡ answer (guard_each (domain_tests (row_of 40).domains f.width (fields f)) 5 (done (rotated f, pos 0)))
domains-left f w h = rotation-stages f ∙ ap answer (passed 1 _ w ∙ passed-each _ 4 _ (none-failed _ h))

pub returns-then-not-is_width-clause-err : goal.returns-then-not-is_width-clause-err
unfolding opened opened_as code_of answer
returns-then-not-is_width-clause-err c =
    sym (ap opened (rotation-stages c.args.f ∙ ap answer (failed 1 _ (sym c.is_width.ensures ∙ c.if-not-is_width.true))))

pub returns-then-place-ne0-clause-err : goal.returns-then-place-ne0-clause-err
unfolding opened opened_as code_of answer
returns-then-place-ne0-clause-err c =
    let first = fixnums c.args.f (omega arith) (omega arith) (omega arith) (omega arith) c.first_not_fixnum-place.ensures in
    sym (ap opened
    (rotation-stages c.args.f
    ∙ ap answer
    (passed 1 _ (sym c.is_width.ensures ∙ c.if-not-is_width.false)
    ∙ failed-each _ 4 _ (some-failed _ (λ e. c.if-place-ne0.true (first ∙ e)))
    ∙ ap (refused 4) (sym first))))

pub returns-in-Some-clause-err : goal.returns-in-Some-clause-err
unfolding opened opened_as code_of answer
returns-in-Some-clause-err c =
    let first = fixnums c.args.f (omega arith) (omega arith) (omega arith) (omega arith) c.first_not_fixnum-place.ensures in
    let place = c.in-Some.ensures.some in
    sym (ap opened
    (domains-left c.args.f (sym c.is_width.ensures ∙ c.if-not-is_width.false) (sym first ∙ c.if-place-ne0.false)
    ∙ ap answer (failed-each _ 5 _ (some-failed _ (λ e. omega (arith, place, e))) ∙ ap (refused 5) place.0)))

pub returns-clause-ok : goal.returns-clause-ok
unfolding is_open answer
returns-clause-ok c =
    let first = fixnums c.args.f (omega arith) (omega arith) (omega arith) (omega arith) c.first_not_fixnum-place.ensures in
    ap (λ (a : Answer). eqb a.refusal 0)
    (domains-left c.args.f (sym c.is_width.ensures ∙ c.if-not-is_width.false) (sym first ∙ c.if-place-ne0.false)
    ∙ ap answer (passed-each _ 5 _ (none-failed _ c.in_default.ensures.none)))
