-- The cases M1 to M6 and M10 of document 01, computed from the definitions. Assumes nothing.
use mathlib.Core.Path.{◌≡◌, refl}
use lib.IntN.{pos, negsuc}
use Rattle.bits.specs.Testbit.{odd, testbit, halvings, bit_length, cons_bit, of_bits}
use Rattle.bits.specs.Logical.{bitwise_not}
use Rattle.bits.specs.Shift.{floor_div, shift_left, shift_right, arithmetic_shift}
use Rattle.bits.specs.Division.{div, mod_ℕ, «mod», div0, mod0}
use Rattle.bits.specs.Field.{in_field, set_field, permute_field, rotate_index, reverse_index, rotate_bit_field, reverse_bit_field}
use Rattle.bits.specs.Count.{ones_below, ones, bit_count, first_true, first_bit_set}

-- negsuc n is -(n + 1)
pub cases-M :
    -- M1
    (rotate_bit_field (pos 0x1234) 4 12 (pos 4) ≡ pos 0x1324)
    -- M2
    × (reverse_bit_field (pos 82) 1 4 ≡ pos 88)
    -- M3
    × (first_bit_set (pos 0) ≡ negsuc 0)
    × (first_bit_set (negsuc 3) ≡ pos 2)
    -- M4
    × (bit_count (negsuc 1) ≡ negsuc 1)
    × (bit_count (negsuc 0) ≡ negsuc 0)
    -- M5
    × (arithmetic_shift (negsuc 22) (negsuc 1) ≡ negsuc 5)
    -- M6
    × (bit_length (negsuc 255) ≡ 8)
    × (bit_length (negsuc 256) ≡ 9)
    -- M10
    × (div (negsuc 6) (pos 2) ≡ negsuc 3)
    × («mod» (negsuc 6) (pos 2) ≡ pos 1)
    × (div0 (negsuc 6) (pos 2) ≡ negsuc 2)
    × (mod0 (negsuc 6) (pos 2) ≡ negsuc 0)
unfolding odd testbit halvings bit_length cons_bit of_bits bitwise_not floor_div shift_left shift_right arithmetic_shift div mod_ℕ «mod» div0 mod0
    in_field set_field permute_field rotate_index reverse_index rotate_bit_field reverse_bit_field ones_below ones bit_count first_true first_bit_set
cases-M = (refl, refl, refl, refl, refl, refl, refl, refl, refl, refl, refl, refl, refl)
