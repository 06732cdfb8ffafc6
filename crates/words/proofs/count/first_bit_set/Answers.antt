-- `words::count::first_bit_set` meets its contract. Assumes nothing.
use mathlib.Core.Path.{◌≡◌, sym, ap, ◌∙◌}
use native.Mathlib.Omega.{arith}
use Prim.Native.Nat.{ℕ, ◌<◌}
use lib.Count as digits
use lib.Count.{trailing_le}
use lib.IntN.{pos, nat_abs}
use lib.Signed.{nat_abs-le}
use Rattle.words.specs.Sign.{of_magnitude}
use Rattle.words.proofs.WordLaws.{back}
use Rattle.words.proofs.CountWords.{trailing-first_bit_set, none-first_bit_set}
use Rattle.words.proofs.count.first_bit_set.Goals as goal

pub from_magnitude-requires : goal.from_magnitude-requires
from_magnitude-requires c = omega (arith, trailing_le 64 c.absolute-n.result)

pub returns-then-n-eq0 : goal.returns-then-n-eq0
returns-then-n-eq0 c =
    let a = c.before.before in
    none-first_bit_set a.args.x (sym (c.absolute-n.ensures ∙ ap nat_abs (back a.ranges.x)) ∙ c.if-n-eq0.true)

pub returns-else-n-eq0 : goal.returns-else-n-eq0
unfolding of_magnitude
returns-else-n-eq0 c =
    let a = c.before.before.before in
    let e : c.absolute-n.result ≡ nat_abs a.args.x = c.absolute-n.ensures ∙ ap nat_abs (back a.ranges.x) in
    let positive : 0 < nat_abs a.args.x = omega (arith, e, c.if-n-eq0.false) in
    back (record { sfits = c.from_magnitude.type_inv })
    ∙ c.from_magnitude.ensures
    ∙ ap pos c.from.ensures
    ∙ ap (λ (n : ℕ). pos (digits.count_trailing_zeros 64 n)) e
    ∙ sym (trailing-first_bit_set a.args.x 64 positive (omega (arith, nat_abs-le a.args.x a.ranges.x.sfits)))
