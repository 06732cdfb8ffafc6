-- Integers as lists of 32-bit limbs, least significant first, in two's complement.
--   on_top n t            ==  the 32 bits of the limb n, and above them the bits of t
--   value xs             ==  the integer: the top bit of the last limb continues for ever
--   limbs_of k z          ==  the k lowest limbs of z
--   limb_count z          ==  how many limbs z needs: room for its length and one bit for its sign
--   shortest z           ==  the shortest limbs of z
--   is_shortest xs        ==  whether xs has no more limbs than its integer needs
use Rattle.std.specs.Prelude.{ℕ, zero, suc, ◌+◌, ◌/◌, ◌^◌, Bool, List, [], ◌∷◌, eqb, ℤ, pos, length}
use Rattle.bits.specs.Testbit.{testbit, bit_length, fill, of_bits}
use Rattle.bits.specs.Shift.{shift_right}
use Rattle.bits.specs.Division.{mod_ℕ}

unfoldable pub on_top : ℕ → ℤ → ℤ
on_top n t = of_bits 32 (λ i. testbit (pos n) i) t

unfoldable pub value : List ℕ → ℤ
value [] = pos 0
value (n ∷ []) = on_top n (fill (testbit (pos n) 31))
value (n ∷ m ∷ ms) = on_top n (value (m ∷ ms))

unfoldable pub limbs_of : ℕ → ℤ → List ℕ
limbs_of zero z = []
limbs_of (suc k) z = mod_ℕ z (2 ^ 32) ∷ limbs_of k (shift_right z 32)

unfoldable pub limb_count : ℤ → ℕ
limb_count z = bit_length z / 32 + 1

unfoldable pub shortest : ℤ → List ℕ
shortest z = limbs_of (limb_count z) z

unfoldable pub is_shortest : List ℕ → Bool
is_shortest xs = eqb (length xs) (limb_count (value xs))
