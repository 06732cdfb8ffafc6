-- `text::long::digits_limb` meets its contract: eight digits are below 2^32. Assumes nothing.
use native.Mathlib.Omega.{arith}
use mathlib.Core.Path.{refl, sym, ◌∙◌}
use Rattle.text.proofs.NumeralLimbs.{numeral-below}
use Rattle.text.proofs.ReadingLaws.{as_word-value, value-as_word}
use Rattle.text.proofs.long.digits_limb.Goals as goal

pub unwrap-requires : goal.unwrap-requires
unwrap-requires c =
    let h = numeral-below c.args.digits.now 8 c.requires.0 c.requires.1 in
    rw (c.sum_digits.ensures ∙ as_word-value _ (omega (arith, h))) refl

pub overflow_cast-result : goal.overflow_cast-result
overflow_cast-result c =
    let h = numeral-below c.args.digits.now 8 c.requires.0 c.requires.1 in
    omega (arith, h, value-as_word _ _ (sym c.sum_digits.ensures ∙ c.unwrap.ensures))

pub returns : goal.returns
returns c = sym (value-as_word _ _ (sym c.sum_digits.ensures ∙ c.unwrap.ensures)).0
