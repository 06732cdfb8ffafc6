-- `fltext::reading::read_number` meets its contract. Assumes nothing.
use Prim.Native.Nat.{◌+◌, ◌≤◌}
use native.Mathlib.Omega.{arith}
use mathlib.Core.Path.{◌≡◌, sym, ap, ap₂, subst, ◌∙◌}
use mathlib.Core.Bool.{cond}
use lib.Dec.{leb}
use lib.ListN.{length}
use lib.Seq.{length-take-le}
use Rattle.text.specs.Numerals.{are_digits}
use Rattle.std.specs.Prelude.{Ok, Err}
use Rattle.std.proofs.lemmas.Result.{err_from_is_err_and}
use Rattle.fltext.specs.declared.FlonumError.{FlonumError}
use Rattle.fltext.specs.Forms.{base}
use Rattle.fltext.specs.Readings.{limit, flonum, number_reading}
use Rattle.fltext.specs.Inner.{exponent_reading}
use Rattle.fltext.proofs.ReadingLaws.{whole_in, end-in, whole_part, fraction-part, tail-part, digits_are, whole-digits, fraction-digits, by_exponent, Within, reading-within, short, number-none, number_by}
use Rattle.fltext.proofs.reading.read_number.Goals as goal
use Rattle.fltext.proofs.reading.read_number.Goals.{After-read_exponent, After-take_apart-whole}

ends : (c : After-take_apart-whole) → let p = c.take_apart-whole.result in (p.from ≤ p.end) × (p.end ≤ length c.args.text.now)
ends c = end-in _ _ c.take_apart-whole.ensures

whole-fits : (c : After-take_apart-whole) → c.take_apart-whole.result.whole ≤ length c.args.text.now
whole-fits c = whole_in _ _ c.take_apart-whole.ensures

pub returns-then-whole-end-eq0 : goal.returns-then-whole-end-eq0
returns-then-whole-end-eq0 c = sym (number-none _ _ _ (digits_are _ _ c.take_apart-whole.ensures ∙ c.if-whole-end-eq0.true))

-- a number with a digit, by its exponent
by-exponent : (c : After-read_exponent) → let a = c.args in
    number_reading a.negative a.hexadecimal a.text.now
    ≡ by_exponent (short a.negative a.hexadecimal a.text.now) c.read_exponent.result
by-exponent c =
    let t = c.take_apart-whole.ensures in
    let a = c.args in
    number_by _ _ _ (λ e. c.if-whole-end-eq0.false (sym (digits_are _ _ t) ∙ e))
    ∙ ap (by_exponent (short a.negative a.hexadecimal a.text.now))
    (sym (c.read_exponent.ensures ∙ ap (exponent_reading a.hexadecimal) (tail-part _ _ t)))

pub read_digits-requires : goal.read_digits-requires
read_digits-requires c =
    let t = c.take_apart-whole.ensures in
    let a = c.args in
    let b = base a.hexadecimal in record {
      whole_value = (ap (are_digits b) (whole_part _ _ t) ∙ whole-digits _ _, ap (are_digits b) (fraction-part _ _ t) ∙ fraction-digits _ _);
      up_le_limit = subst Within (sym c.read_exponent.ensures ∙ c.in_ok-exponent.was) (reading-within _ _);
    }

pub returns : goal.returns
returns c =
    let t = c.take_apart-whole.ensures in
    let a = c.args in
    let e = c.in_ok-exponent.exponent in
    c.read_digits.ensures
    ∙ ap₂
    (λ w f. cond (leb (length w + length f) limit) (Ok (flonum a.negative a.hexadecimal w f e.up e.down)) (Err FlonumError.TooLong))
    (whole_part _ _ t) (fraction-part _ _ t)
    ∙ sym (by-exponent (goal.at.returns c).After-read_exponent ∙ ap (by_exponent (short a.negative a.hexadecimal a.text.now)) c.in_ok-exponent.was)

pub returns-in_err-exponent : goal.returns-in_err-exponent
returns-in_err-exponent c =
    let a = c.args in
    let p = err_from_is_err_and c.from_residual.result c.from_residual.ensures.1 in
    rw (p.1, p.2) (sym (by-exponent (goal.at.returns-in_err-exponent c).After-read_exponent ∙ ap (by_exponent (short a.negative a.hexadecimal a.text.now)) c.in_err-exponent.was))

pub overflow_sub-end : goal.overflow_sub-end
overflow_sub-end c = (ends c).0

pub overflow_add-whole : goal.overflow_add-whole
overflow_add-whole c = omega (arith, (ends c).0, (ends c).1, whole-fits c)

pub slice_bounds-read_exponent-count : goal.slice_bounds-read_exponent-count
slice_bounds-read_exponent-count c = (ends (goal.at.slice_bounds-read_exponent-count c).After-take_apart-whole).1

pub slice_bounds-read_exponent-start : goal.slice_bounds-read_exponent-start
slice_bounds-read_exponent-start c = (ends (goal.at.slice_bounds-read_exponent-start c).After-take_apart-whole).1

pub slice_bounds-read_digits-end : goal.slice_bounds-read_digits-end
slice_bounds-read_digits-end c = sym (length-take-le _ _ (whole-fits (goal.at.slice_bounds-read_digits-end c).After-take_apart-whole))

pub slice_bounds-read_digits-count : goal.slice_bounds-read_digits-count
slice_bounds-read_digits-count c = (ends (goal.at.slice_bounds-read_digits-count c).After-take_apart-whole).0

pub slice_bounds-read_digits-start : goal.slice_bounds-read_digits-start
slice_bounds-read_digits-start c = (ends (goal.at.slice_bounds-read_digits-start c).After-take_apart-whole).0

pub slice_bounds-read_digits-end-2 : goal.slice_bounds-read_digits-end-2
slice_bounds-read_digits-end-2 c = (ends (goal.at.slice_bounds-read_digits-end-2 c).After-take_apart-whole).1
