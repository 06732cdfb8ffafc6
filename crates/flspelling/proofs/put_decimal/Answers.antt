-- `flspelling::put_decimal` meets its contract. Assumes nothing.
use mathlib.Core.Path.{sym}
use mathlib.Core.List.{[], ◌∷◌, ◌++◌}
use Rattle.flspelling.specs.Spellings.{last_digit, place, decimal}
use Rattle.output.proofs.PutsLaws.{puts_then}
use Rattle.flspelling.proofs.put_decimal.Goals as goal

pub returns : goal.returns
unfolding decimal
returns c =
    let n = c.args.n in
    let d = c.last_digit.ensures in
    puts_then (place n 1000) (place n 100 ++ (place n 10 ++ (last_digit n ∷ []))) c.put_place.ensures
    (puts_then (place n 100) (place n 10 ++ (last_digit n ∷ [])) c.put_place-2.ensures
    (puts_then (place n 10) (last_digit n ∷ []) c.put_place-3.ensures
    (rw (sym d) (record { count = c.put.ensures.filled; buffer = c.put.ensures.bytes }))))
