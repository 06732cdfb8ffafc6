-- `fltext::exponent::of_digits` meets its contract. Assumes nothing.
use native.Mathlib.Omega.{arith}
use mathlib.Core.Path.{◌≡◌, sym, ap, ◌∙◌}
use mathlib.Core.Bool.{true}
use borrow.Author.Rules.{rules}
use borrow.Author.Tests.{tests}
use lib.Dec.{lit<, lit≤}
use Rattle.std.specs.Prelude.{Ok}
use Rattle.text.proofs.ReadingLaws.{value-as_word, beyond-as_word}
use Rattle.fltext.specs.Forms.{is_natural}
use Rattle.fltext.proofs.ExponentLaws.{natural-empty, natural-by, exponent_of-malformed, exponent_of-value, exponent_of-long}
use Rattle.fltext.proofs.exponent.of_digits.Goals as goal
use Rattle.fltext.proofs.exponent.of_digits.Goals.{Else-not-are_digits, then-is_empty-via-then-is_empty, then-is_empty-via-else-is_empty+then-not-are_digits}

pub returns-then-is_empty : goal.returns-then-is_empty
returns-then-is_empty c =
    sym (exponent_of-malformed _ _ (elim c.then-is_empty.branch [
      | then-is_empty-via-then-is_empty w ↦ natural-empty _ (search (rules, tests))
      | then-is_empty-via-else-is_empty+then-not-are_digits w ↦ natural-by _ (search (rules, tests)) (sym w.are_digits.ensures ∙ w.if-not-are_digits.true)
    ]))

pub sum_digits-requires : goal.sum_digits-requires
sum_digits-requires c = record { base_nonzero = (lit< tt, lit≤ tt); text_value = sym c.are_digits.ensures ∙ c.if-not-are_digits.false }

-- where they are digits
natural : (c : Else-not-are_digits) → is_natural c.args.digits.now ≡ true
natural c = natural-by _ (search (rules, tests)) (sym c.are_digits.ensures ∙ c.if-not-are_digits.false)

pub returns-in-Some : goal.returns-in-Some
returns-in-Some c =
    let v = value-as_word _ _ (sym c.sum_digits.ensures ∙ c.in-Some.is) in
    ap Ok c.signed.ensures ∙ sym (exponent_of-value _ _ (natural (goal.at.returns-in-Some c).Else-not-are_digits) v.0 c.if-n-le1500.true)

pub returns-in_default : goal.returns-in_default
returns-in_default c =
    let v = value-as_word _ _ (sym c.sum_digits.ensures ∙ c.in-Some.is) in
    sym (exponent_of-long _ _ (natural (goal.at.returns-in_default c).Else-not-are_digits) (omega (arith, v.0, c.if-n-le1500.false)))

pub returns-in_default-2 : goal.returns-in_default-2
returns-in_default-2 c =
    let h = beyond-as_word _ (sym c.sum_digits.ensures ∙ c.in_default.is) in
    sym (exponent_of-long _ _ (natural (goal.at.returns-in_default-2 c).Else-not-are_digits) (omega (arith, h)))
