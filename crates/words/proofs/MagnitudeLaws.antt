-- An integer by its sign and its magnitude: the same integer, and the same length; its bits are those of the magnitude, or their complements.
-- Assumes nothing.
use Prim.Native.Nat.{ℕ}
use mathlib.Core.Path.{◌≡◌, refl, sym}
use mathlib.Core.Bool.{true, false, not, xor}
use lib.IntN.{ℤ, pos, negsuc}
use lib.Signed.{mag}
use Rattle.bits.specs.Testbit.{is_negative, testbit, bit_length}
use Rattle.words.specs.Sign.{of_magnitude}
use Rattle.bits.proofs.Booleans.{all₁}

pub of_magnitude-mag : (x : ℤ) → of_magnitude (is_negative x) (mag x) ≡ x
unfolding of_magnitude is_negative
of_magnitude-mag (pos n) = refl
of_magnitude-mag (negsuc n) = refl

pub bit_length-mag : (x : ℤ) → bit_length (pos (mag x)) ≡ bit_length x
unfolding bit_length
bit_length-mag x = refl

pub testbit-mag : (x : ℤ) (i : ℕ) → testbit (pos (mag x)) i ≡ xor (testbit x i) (is_negative x)
unfolding testbit is_negative xor
testbit-mag (pos n) i = sym (all₁ (λ b. xor b false) (λ b. b) tt (testbit (pos n) i))
testbit-mag (negsuc n) i = sym (all₁ (λ b. xor (not b) true) (λ b. b) tt (testbit (pos n) i))
