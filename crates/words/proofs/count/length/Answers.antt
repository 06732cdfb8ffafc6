-- `words::count::length` meets its contract. Assumes nothing.
use mathlib.Core.Path.{ap, ◌∙◌}
use native.Mathlib.Omega.{arith}
use Prim.Native.Nat.{ℕ, ◌-◌}
use lib.Count as digits
use lib.Count.{leading_le}
use lib.IntN.{pos}
use lib.Signed.{mag}
use Rattle.words.specs.Sign.{of_magnitude}
use Rattle.words.proofs.WordLaws.{back}
use Rattle.words.proofs.CountWords.{leading-bit_length}
use Rattle.words.proofs.count.length.Goals as goal

pub overflow_sub-zeros : goal.overflow_sub-zeros
overflow_sub-zeros c = rw c.from-zeros.ensures (leading_le 64 c.magnitude.result)

pub returns : goal.returns
unfolding of_magnitude
returns c =
    let a = c.before.before in
    back (record { sfits = c.from_magnitude.type_inv })
    ∙ c.from_magnitude.ensures
    ∙ ap (λ (zeros : ℕ). pos (64 - zeros)) c.from-zeros.ensures
    ∙ ap (λ (m : ℕ). pos (64 - digits.count_leading_zeros 64 m)) (c.magnitude.ensures ∙ ap mag (back a.ranges.x))
    ∙ ap pos (leading-bit_length a.args.x 64 (omega (arith, a.ranges.x.sfits)))
