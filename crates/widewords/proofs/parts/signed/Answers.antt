-- `widewords::parts::signed` meets its contract. Assumes nothing.
use Rattle.std.proofs.Common.{◌≡◌, ◌-◌, ◌%◌, ◌^◌, ap, ◌∙◌, mod-lt, arith, pow_pos}
use lib.Bits.{bit_and, and_mask}
use Rattle.words.specs.Sign.{of_magnitude}
use Rattle.words.proofs.WordLaws.{back}
use Rattle.widewords.proofs.PartLaws.{signed_low, signed_high}
use Rattle.widewords.proofs.parts.signed.Goals as goal
use Rattle.widewords.proofs.parts.signed.Goals.{After-ones-ones}

-- the bits under the mask
bits : (c : After-ones-ones) → bit_and c.args.n c.ones-ones.result ≡ c.args.n % 2 ^ c.args.width
bits c =
    let a = c.args in
    let e : c.ones-ones.result ≡ 2 ^ a.width - 1 = omega (arith, c.ones-ones.ensures) in
    ap (bit_and a.n) e ∙ and_mask a.n a.width

pub overflow_sub-ones : goal.overflow_sub-ones
overflow_sub-ones c =
    let a = c.args in
    omega (arith, bits c.before, c.ones-ones.ensures, mod-lt a.n (pow_pos a.width))

pub returns-then-bits-ones : goal.returns-then-bits-ones
unfolding of_magnitude
returns-then-bits-ones c =
    let o = c.before.before in
    back (record { sfits = c.from_magnitude.type_inv })
    ∙ c.from_magnitude.ensures
    ∙ signed_low o.args.width o.args.n _ _ o.requires.0 (bits o) o.ones-ones.ensures c.if-bits-ones.true

pub returns-else-bits-ones : goal.returns-else-bits-ones
unfolding of_magnitude
returns-else-bits-ones c =
    let o = c.before.before in
    back (record { sfits = c.from_magnitude-else-bits-ones.type_inv })
    ∙ c.from_magnitude-else-bits-ones.ensures
    ∙ signed_high o.args.width o.args.n _ _ o.requires.0 (bits o) o.ones-ones.ensures c.if-bits-ones.false
