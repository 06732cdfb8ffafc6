-- `text::long::read_bounded` meets its contract. Assumes nothing.
use Prim.Native.Nat.{ℕ, ◌^◌, ◌<◌}
use native.Mathlib.Omega.{arith}
use mathlib.Core.Path.{◌≡◌, refl, sym, ap, ◌∙◌}
use lib.Dec.{ltb, lit<}
use lib.ListN.{length}
use borrow.Author.Tests.{lt-ltb, le-ltb, le-leb, lt-leb}
use Rattle.words.specs.Sign.{with_sign}
use Rattle.std.specs.Prelude.{Option, ok_or}
use Rattle.std.proofs.lemmas.Result.{err_from_is_err_and}
use Rattle.bits.proofs.Booleans.{and-false}
use Rattle.text.specs.declared.ReadError.{ReadError}
use Rattle.text.specs.Numerals.{numeral}
use Rattle.text.specs.Inner.{as_word}
use Rattle.text.proofs.ReadingLaws.{ok-as_word, err-as_word}
use Rattle.text.proofs.ReadingBuffer.{word_room, first-natural, first_signed, first-within, lays-none, lays-as}
use Rattle.text.proofs.long.read_bounded.Goals as goal
use Rattle.text.proofs.long.read_bounded.Goals.{After-ok_or, In_ok-n}

pub returns-then-out-lt3 : goal.returns-then-out-lt3
returns-then-out-lt3 c =
    let a = c.args in
    lays-none _ _ (rw (lt-leb 3 (length a.out.now) c.if-out-lt3.true) (and-false (ltb (numeral a.base a.digits.now) (2 ^ 64))))

word : (c : After-ok_or) → c.ok_or.result ≡ ok_or (as_word (numeral c.args.base c.args.digits.now)) ReadError.TooLarge
word c = c.ok_or.ensures.value ∙ ap (λ (o : Option ℕ). ok_or o ReadError.TooLarge) c.sum_digits.ensures

pub returns-in_err-n : goal.returns-in_err-n
returns-in_err-n c =
    let a = c.args in
    let x = err-as_word _ (word (goal.at.returns-in_err-n c).After-ok_or) c.in_err-n.was in
    let p = err_from_is_err_and c.from_residual.result c.from_residual.ensures.1 in
    rw (p.1, p.2, x.1) (lays-none _ _ (rw (le-ltb (numeral a.base a.digits.now) (2 ^ 64) x.0) refl))

-- the number, as one word
number : (c : In_ok-n) → let a = c.args in
    (numeral a.base a.digits.now ≡ c.in_ok-n.n) × (c.in_ok-n.n < 2 ^ 64)
number c = ok-as_word _ (word (goal.at.In_ok-n c).After-ok_or) c.in_ok-n.was

pub sign_first-requires : goal.sign_first-requires
sign_first-requires c =
    let room = word_room _ (number (goal.at.sign_first-requires c).In_ok-n).1 in
    record { n_nonzero = (lit< tt, first-within 3 _ c.args.out.now c.put_word.ensures room c.if-out-lt3.false); out_value = first-natural 3 _ c.args.out.now c.put_word.ensures room }

pub returns : goal.returns
returns c =
    let a = c.args in
    let n = number (goal.at.returns c).In_ok-n in
    lays-as c.sign_first.ensures
    (first_signed 3 _ a.out.now c.put_word.ensures (word_room _ n.1) a.negative ∙ ap (with_sign a.negative) (sym n.0))
    (rw (lt-ltb (numeral a.base a.digits.now) (2 ^ 64) (omega (arith, n.0, n.1)), le-leb 3 (length a.out.now) c.if-out-lt3.false) refl)
