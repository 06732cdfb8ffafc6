-- `limbwords::signed::word_bits` meets its contract. Assumes nothing.
use native.Mathlib.Omega.{arith}
use mathlib.Core.Path.{◌≡◌, ap, ◌∙◌}
use lib.IntN.{ℤ}
use Rattle.words.proofs.WordLaws.{back}
use Rattle.limbwords.specs.Results.{bits_from}
use Rattle.limbwords.proofs.LimbLaws.{bits_from-lt}
use Rattle.limbwords.proofs.signed.word_bits.Goals as goal

bits : (c : goal.After-bits_from) → c.bits_from.result ≡ bits_from c.args.v c.args.at
unfolding bits_from
bits c = c.bits_from.ensures ∙ ap (λ (v : ℤ). bits_from v c.args.at) (back c.ranges.v)

pub overflow_cast-result : goal.overflow_cast-result
overflow_cast-result c = omega (arith, bits c, bits_from-lt c.args.v c.args.at)

pub returns : goal.returns
returns c = bits c
