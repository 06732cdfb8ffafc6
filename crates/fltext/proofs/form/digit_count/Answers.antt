-- `fltext::form::digit_count` meets its contract. Assumes nothing.
use mathlib.Core.Path.{ap, ◌∙◌}
use mathlib.Core.Bool.{not}
use lib.Dec.{ltb}
use lib.ListN.{length}
use borrow.Author.Rules.{rules}
use borrow.Author.Tests.{tests}
use Rattle.std.specs.Prelude.{unwrap_or}
use Rattle.std.proofs.lemmas.Iterator.{YieldsList-from_slice}
use Rattle.std.proofs.lemmas.Iterator.Search.{position_from_yields_List}
use Rattle.text.specs.Numerals.{digit}
use Rattle.fltext.proofs.FormLaws.{digit_count-position}
use Rattle.fltext.proofs.form.digit_count.Goals as goal

pub returns : goal.returns
returns c =
    let a = c.args in
    let p = position_from_yields_List (λ x. not (ltb (digit x) a.base)) _ _ c.position.result c.position.ensures.ran (YieldsList-from_slice a.text.now cc) (λ x b q k. search (rules, tests)) in
    c.unwrap_or.ensures ∙ ap (λ r. unwrap_or r (length a.text.now)) p ∙ digit_count-position a.base a.text.now
