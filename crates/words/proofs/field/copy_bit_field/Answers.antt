-- `words::field::copy_bit_field` meets its contract. Assumes nothing.
use native.Mathlib.Nat.{mod-le}
use native.Mathlib.Omega.{arith}
use mathlib.Core.Path.{◌≡◌, ap, ◌∙◌}
use Prim.Native.Nat.{ℕ, ◌+◌, ◌*◌, ◌-◌, ◌%◌, ◌<◌, ◌^◌}
use lib.IntN.{ℤ, pos}
use Rattle.words.specs.Sign.{of_magnitude}
use Rattle.bits.specs.Field.{copy_bit_field}
use Rattle.words.proofs.WordLaws.{back}
use Rattle.words.proofs.FieldLaws.{together, magnitude-lt, replaced, replaced-lt}
use Rattle.words.proofs.field.copy_bit_field.Goals as goal

pub overflow_sub-above : goal.overflow_sub-above
overflow_sub-above c = omega (arith, c.low.ensures, mod-le c.magnitude-m.result (2 ^ c.args.end))

-- the three parts of the new magnitude
abbrev total : goal.After-signed_low → ℕ
total c =
    let m = c.magnitude-m.result in
    let a = c.args in
    m - m % 2 ^ a.end + c.signed_low.result * 2 ^ a.start + m % 2 ^ a.start

total-lt : (c : goal.After-signed_low) → total c < 2 ^ 63
total-lt c =
    let b = c.before.before.before.before in
    replaced-lt _ _ b.args.start b.args.end _ c.signed_low.ensures b.requires.0 b.requires.1 (magnitude-lt b.ranges.x c.magnitude-m.ensures)

pub shifted-field-requires : goal.shifted-field-requires
shifted-field-requires c = let b = c.before.before.before.before in omega (arith, b.requires.0, b.requires.1, total-lt c)

pub overflow_add-above : goal.overflow_add-above
overflow_add-above c = omega (arith, c.shifted-field.ensures, c.low.ensures, total-lt c.before)

sum : (c : goal.After-low-2)
    → c.magnitude-m.result - c.low.result + c.shifted-field.result + c.low-2.result
    ≡ total c.before.before
sum c = cc (c.low.ensures, c.shifted-field.ensures, c.low-2.ensures)

pub overflow_add-above-2 : goal.overflow_add-above-2
overflow_add-above-2 c = omega (arith, sum c, total-lt c.before.before)

pub from_magnitude-requires : goal.from_magnitude-requires
from_magnitude-requires c = omega (arith, sum c, total-lt c.before.before)

pub returns : goal.returns
returns c =
    let b = c.before.before.before.before.before.before.before in
    back (record { sfits = c.from_magnitude.type_inv })
    ∙ c.from_magnitude.ensures
    ∙ ap (of_magnitude c.is_negative-negative.result) (sum c.before)
    ∙ replaced _ _ b.args.start b.args.end _ c.signed_low.ensures b.requires.0
    ∙ ap (λ (x : ℤ). copy_bit_field x b.args.start b.args.end (pos b.args.y))
    (together b.ranges.x c.is_negative-negative.ensures c.magnitude-m.ensures)
