-- `limbs::from_word` meets its contract. Assumes nothing.
use native.Mathlib.Omega.{arith}
use mathlib.Core.Path.{◌≡◌, sym, ap}
use mathlib.Core.List.{[], ◌∷◌}
use lib.Dec.{lit<}
use Rattle.words.proofs.WordLaws.{back}
use Rattle.outcomes.specs.Outcome.{done}
use Rattle.limbwords.specs.Value.{value}
use Rattle.limbwords.specs.Results.{bits_from}
use Rattle.limbwords.proofs.ValueLaws.{limb_count-le, value-length}
use Rattle.limbs.proofs.SignedLaws.{word-limbs}
use Rattle.limbstages.proofs.WritesLaws.{writes_as}
use Rattle.limbs.proofs.from_word.Goals as goal
use Rattle.limbs.proofs.from_word.Goals.{After-word_bits, After-word_bits-2}

low : (c : After-word_bits) → c.word_bits.result ≡ bits_from c.args.v 0
low c = rw (back c.ranges.v) at c.word_bits.ensures

high : (c : After-word_bits-2) → c.word_bits-2.result ≡ bits_from c.args.v 32
high c = rw (back c.ranges.v) at c.word_bits-2.ensures

pub store_limbs-requires : goal.store_limbs-requires
store_limbs-requires c =
    let n = c.shortest_length.ensures in
    let xs = c.word_bits.result ∷ c.word_bits-2.result ∷ [] in
    record { x_nonzero = (lit< tt, omega (arith, n, limb_count-le (value xs) 2 (value-length xs (lit< tt)))); count_value = n }

pub returns : goal.returns
returns c = writes_as (ap done (sym (word-limbs _ c.ranges.v.sfits (low (goal.at.returns c).After-word_bits) (high (goal.at.returns c).After-word_bits-2)))) c.store_limbs.ensures
