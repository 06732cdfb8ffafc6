-- `fltext::exponent::read_exponent` meets its contract. Assumes nothing.
use mathlib.Core.Path.{◌≡◌, sym, ap, ◌∙◌}
use borrow.Author.Rules.{rules, part_to_end}
use borrow.Author.Tests.{tests}
use Rattle.text.specs.Numerals.{byte_at}
use Rattle.fltext.specs.Forms.{is_minus, after_sign, is_letter}
use Rattle.fltext.specs.Inner.{exponent_of}
use Rattle.fltext.proofs.ExponentLaws.{reading-none, reading-other, reading-letter}
use Rattle.fltext.proofs.exponent.read_exponent.Goals as goal
use Rattle.fltext.proofs.exponent.read_exponent.Goals.{After-is_letter}

pub returns-then-is_empty : goal.returns-then-is_empty
returns-then-is_empty c = sym (reading-none _ _ (search (rules, tests)))

letter : (c : After-is_letter) → let a = c.args in is_letter a.hexadecimal (byte_at a.text.now 0) ≡ c.is_letter.result
unfolding byte_at
letter c = sym c.is_letter.ensures

pub returns-then-not-is_letter : goal.returns-then-not-is_letter
returns-then-not-is_letter c =
    sym (reading-other _ _ (search (rules, tests)) (letter (goal.at.returns-then-not-is_letter c).After-is_letter ∙ c.if-not-is_letter.true))

pub returns : goal.returns
returns c =
    c.after_letter.ensures
    ∙ ap (λ cs. exponent_of (is_minus cs) (after_sign cs)) (part_to_end c.args.text.now 1)
    ∙ sym (reading-letter _ _ (search (rules, tests)) (letter (goal.at.returns c).After-is_letter ∙ c.if-not-is_letter.false))
