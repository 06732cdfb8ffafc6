-- `words::field::extend` meets its contract. Assumes nothing.
use native.Mathlib.Nat.{lt_of_lt_of_le}
use native.Mathlib.Omega.{arith}
use mathlib.Core.Path.{sym, ap, subst, ◌∙◌}
use Prim.Native.Nat.{ℕ, ◌<◌, ◌^◌}
use lib.IntN.{ℤ}
use lib.Pow.{pow_pos, pow_mono}
use Rattle.bits.specs.Division.{mod_ℕ}
use Rattle.words.specs.Sign.{of_magnitude}
use Rattle.bits.proofs.ModLaws.{mod_ℕ-lt}
use Rattle.words.proofs.FieldWords.{extend-magnitude}
use Rattle.words.proofs.WordLaws.{back}
use Rattle.words.proofs.field.extend.Goals as goal

pub from_magnitude-requires : goal.from_magnitude-requires
from_magnitude-requires c =
    let k = c.args.k in
    subst (λ (n : ℕ). n < 2 ^ 63) (sym c.signed_low.ensures)
    (lt_of_lt_of_le (mod_ℕ-lt _ (2 ^ k) (pow_pos k)) (pow_mono {j = 63} (omega (arith, c.requires))))

pub returns : goal.returns
returns c =
    let b = c.before.before.before in
    back (record { sfits = c.from_magnitude.type_inv })
    ∙ c.from_magnitude.ensures
    ∙ ap (of_magnitude b.args.negative)
    (c.signed_low.ensures
    ∙ ap (λ (n : ℕ). mod_ℕ (of_magnitude b.args.negative n) (2 ^ b.args.k))
    (c.low_bits.ensures ∙ ap (λ (x : ℤ). mod_ℕ x (2 ^ b.args.k)) (back b.ranges.x)))
    ∙ extend-magnitude b.args.negative b.args.x b.args.k
