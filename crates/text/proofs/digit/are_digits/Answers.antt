-- `text::digit::are_digits` meets its contract. Assumes nothing.
use mathlib.Core.Path.{sym, ◌∙◌}
use lib.Dec.{ltb}
use borrow.Author.Rules.{rules}
use borrow.Author.Tests.{tests}
use Rattle.std.proofs.lemmas.Iterator.{YieldsList-from_slice}
use Rattle.std.proofs.lemmas.Iterator.Search.{all_from_yields_List}
use Rattle.text.specs.Numerals.{digit}
use Rattle.text.proofs.NumeralLaws.{are_digits-all}
use Rattle.text.proofs.digit.are_digits.Goals as goal

pub returns : goal.returns
returns c =
    let a = c.args in
    all_from_yields_List (λ x. ltb (digit x) a.base) _ _ c.all.result c.all.ensures.ran (YieldsList-from_slice a.text.now cc) (λ x b q k. search (rules, tests)) ∙ sym (are_digits-all a.base a.text.now)
