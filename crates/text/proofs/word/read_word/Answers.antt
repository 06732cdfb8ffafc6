-- `text::word::read_word` meets its contract. Assumes nothing.
use mathlib.Core.Path.{◌≡◌, sym, ap, ◌∙◌}
use mathlib.Core.Bool.{Bool, cond}
use Prim.Native.Nat.{ℕ}
use Rattle.std.specs.Prelude.{Option, Ok, Err, ok_or}
use Rattle.std.proofs.lemmas.Result.{err_from_is_err_and}
use Rattle.words.specs.Sign.{with_sign}
use Rattle.words.proofs.WordLaws.{back}
use Rattle.text.specs.declared.ReadError.{ReadError}
use Rattle.text.specs.Numerals.{numeral}
use Rattle.text.specs.Readings.{reading}
use Rattle.text.specs.Inner.{as_word}
use Rattle.text.proofs.ReadingParts.{integer-is}
use Rattle.text.proofs.ReadingLaws.{ok-as_word, err-as_word, reading-malformed, reading-by, reading-beyond}
use Rattle.text.proofs.word.read_word.Goals as goal
use Rattle.text.proofs.word.read_word.Goals.{After-ok_or, After-absolute_fits}

pub returns-in_err-numeral : goal.returns-in_err-numeral
returns-in_err-numeral c =
    let h = c.in_err-numeral.ensures in
    let p = err_from_is_err_and c.from_residual.result c.from_residual.ensures.1 in
    rw (p.1, p.2, h.0) (sym (reading-malformed _ h.1))

word : (c : After-ok_or) → c.ok_or.result ≡ ok_or (as_word (numeral c.in_ok-numeral.numeral.base c.in_ok-numeral.numeral.digits.now)) ReadError.TooLarge
word c = c.ok_or.ensures.value ∙ ap (λ (o : Option ℕ). ok_or o ReadError.TooLarge) c.sum_digits.ensures

pub returns-in_err-n : goal.returns-in_err-n
returns-in_err-n c =
    let w = c.in_ok-numeral.ensures in
    let x = err-as_word _ (word (goal.at.returns-in_err-n c).After-ok_or) c.in_err-n.was in
    let p = err_from_is_err_and c.from_residual-in_err-n.result c.from_residual-in_err-n.ensures.1 in
    rw (p.1, p.2, x.1) (sym (reading-beyond _ _ _ w.integral (integer-is _ w) x.0))

-- the text of a number below 2^64
value-reading : (c : After-absolute_fits) {t : Bool} → c.absolute_fits.result ≡ t → reading c.args.text.now ≡ cond t (Ok (with_sign c.in_ok-numeral.numeral.negative c.in_ok-n.n)) (Err ReadError.TooLarge)
value-reading c f =
    let w = c.in_ok-numeral.ensures in
    let v = ok-as_word _ (word (goal.at.After-absolute_fits c).After-ok_or) c.in_ok-n.was in
    reading-by _ w.integral (integer-is _ w ∙ ap (with_sign c.in_ok-numeral.numeral.negative) v.0) (sym c.absolute_fits.ensures ∙ f)

pub returns-then-not-absolute_fits : goal.returns-then-not-absolute_fits
returns-then-not-absolute_fits c = sym (value-reading (goal.at.returns-then-not-absolute_fits c).After-absolute_fits c.if-not-absolute_fits.true)

pub returns : goal.returns
returns c =
    ap Ok (back (record { sfits = c.from_absolute.type_inv }) ∙ c.from_absolute.ensures)
    ∙ sym (value-reading (goal.at.returns c).After-absolute_fits c.if-not-absolute_fits.false)
