-- `text::word::sum_digits` meets its contract. The invariant: n is the number of the digits so far. Assumes nothing.
use Prim.Native.Nat.{ℕ, ◌+◌, ◌*◌}
use native.Mathlib.Omega.{arith}
use mathlib.Core.Path.{refl, sym, ap, ◌∙◌}
use lib.Dec.{lit<}
use Rattle.text.specs.Numerals.{numeral_from, numeral}
use Rattle.text.proofs.NumeralLaws.{digit_at, numeral-more, numeral-first}
use Rattle.text.proofs.DigitValues.{digit-found, digit-missed}
use Rattle.text.proofs.ReadingLaws.{as_word-beyond}
use Rattle.text.proofs.word.sum_digits.Goals as goal

pub loop-c-init : goal.loop-c-init
unfolding numeral numeral_from
loop-c-init c = (refl, lit< tt)

pub returns-in_err-checked_mul : goal.returns-in_err-checked_mul
returns-in_err-checked_mul c =
    let a = c.args in
    let l = c.loop-c in
    c.from_residual.ensures
    ∙ sym (as_word-beyond _ (omega (arith, c.in_err-checked_mul.ensures, ap (λ (n : ℕ). n * a.base) l.invariant.0, numeral-more a.base a.text.now l.c-index c.loop-c-test.true, numeral-first a.base (l.c-index + 1) a.text.now (omega arith))))

pub returns-in_err-digit : goal.returns-in_err-digit
returns-in_err-digit c =
    let a = c.args in
    let h = digit_at a.base a.text.now c.loop-c.c-index c.requires.text_value c.loop-c-test.true in
    absurd (omega (arith, h, digit-missed _ c.digit.ensures c.in_err-digit.was))

pub returns-in_err-n : goal.returns-in_err-n
returns-in_err-n c =
    let a = c.args in
    let l = c.loop-c in
    c.from_residual-in_err-n.ensures
    ∙ sym (as_word-beyond _ (omega (arith, c.in_err-n.ensures, c.in_ok-checked_mul.ensures.1, digit-found _ c.digit.ensures c.in_ok-digit.was, ap (λ (n : ℕ). n * a.base) l.invariant.0, numeral-more a.base a.text.now l.c-index c.loop-c-test.true, numeral-first a.base (l.c-index + 1) a.text.now (omega arith))))

pub loop-c-preserved : goal.loop-c-preserved
loop-c-preserved c =
    let a = c.args in
    let l = c.loop-c in (
      omega (arith, c.in_ok-n.ensures.1, c.in_ok-checked_mul.ensures.1, digit-found _ c.digit.ensures c.in_ok-digit.was, ap (λ (n : ℕ). n * a.base) l.invariant.0, numeral-more a.base a.text.now l.c-index c.loop-c-test.true),
      omega (arith, c.in_ok-n.ensures),
    )
