-- Conversions around the limits of widths 24, 63 and 64, computed from the definitions. Assumes nothing.
use mathlib.Core.Path.{◌≡◌, refl}
use Prim.Native.Nat.{ℕ}
use mathlib.Core.List.{List, [], ◌∷◌}
use lib.IntN.{ℤ, pos, negsuc}
use Rattle.bits.specs.Testbit.{odd, testbit, halvings, bit_length, cons_bit, of_bits, fits, fill}
use Rattle.bits.specs.Shift.{floor_div, shift_right}
use Rattle.bits.specs.Division.{mod_ℕ}
use Rattle.fxtable.specs.Domains.{least_width, largest_width, is_width}
use Rattle.limbwords.specs.Value.{on_top, value, limbs_of, limb_count, shortest, is_shortest}
use Rattle.outcomes.specs.Outcome.{Outcome, guard, guard_at, map_done, refusal_of}
use Rattle.outcomes.specs.Buffer.{capacity, laid, fitted, afterwards, count_of}
use Rattle.limbstages.specs.Buffer.{stored, written, copied}
use Rattle.outcomes.specs.Number.{number}
use Rattle.limbstages.specs.Stages.{most_limbs, has_limbs, is_operand, operand}
use Rattle.convert.specs.Convert.{to_fixnum_outcome, to_limbs_outcome}

-- the buffer after a call
abbrev after : Outcome ℤ → List ℕ → ℕ → List ℕ
after o out first = afterwards (stored o out first) out first

pub cases-to-fixnum :
    -- 2^23 - 1 and 2^23, -2^23 and one less
    (number (to_fixnum_outcome 24 (0x7FFFFF ∷ [])) ≡ record { refusal = 0; value = pos 8388607 })
    × (number (to_fixnum_outcome 24 (0x800000 ∷ [])) ≡ record { refusal = 6; value = pos 0 })
    × (number (to_fixnum_outcome 24 (0xFF800000 ∷ [])) ≡ record { refusal = 0; value = negsuc 8388607 })
    × (number (to_fixnum_outcome 24 (0xFF7FFFFF ∷ [])) ≡ record { refusal = 6; value = pos 0 })
    -- 2^62 - 1 and 2^62, -2^62 and one less; and 2^63, which takes a third limb
    × (number (to_fixnum_outcome 63 (0xFFFFFFFF ∷ 0x3FFFFFFF ∷ [])) ≡ record { refusal = 0; value = pos 0x3FFFFFFFFFFFFFFF })
    × (number (to_fixnum_outcome 63 (0 ∷ 0x40000000 ∷ [])) ≡ record { refusal = 6; value = pos 0 })
    × (number (to_fixnum_outcome 63 (0 ∷ 0xC0000000 ∷ [])) ≡ record { refusal = 0; value = negsuc 0x3FFFFFFFFFFFFFFF })
    × (number (to_fixnum_outcome 63 (0xFFFFFFFF ∷ 0xBFFFFFFF ∷ [])) ≡ record { refusal = 6; value = pos 0 })
    × (number (to_fixnum_outcome 63 (0 ∷ 0x80000000 ∷ 0 ∷ [])) ≡ record { refusal = 6; value = pos 0 })
    -- 2^63 - 1 and 2^63, -2^63 and one less
    × (number (to_fixnum_outcome 64 (0xFFFFFFFF ∷ 0x7FFFFFFF ∷ [])) ≡ record { refusal = 0; value = pos 0x7FFFFFFFFFFFFFFF })
    × (number (to_fixnum_outcome 64 (0 ∷ 0x80000000 ∷ 0 ∷ [])) ≡ record { refusal = 6; value = pos 0 })
    × (number (to_fixnum_outcome 64 (0 ∷ 0x80000000 ∷ [])) ≡ record { refusal = 0; value = negsuc 0x7FFFFFFFFFFFFFFF })
    × (number (to_fixnum_outcome 64 (0xFFFFFFFF ∷ 0x7FFFFFFF ∷ 0xFFFFFFFF ∷ [])) ≡ record { refusal = 6; value = pos 0 })
    -- 2^64, which is no word
    × (number (to_fixnum_outcome 64 (0 ∷ 0 ∷ 1 ∷ [])) ≡ record { refusal = 6; value = pos 0 })
    -- padded limbs, of 5, -2 and 0; and of 2^64, which is no fixnum either: 7 comes first
    × (number (to_fixnum_outcome 24 (5 ∷ 0 ∷ 0 ∷ 0 ∷ [])) ≡ record { refusal = 7; value = pos 0 })
    × (number (to_fixnum_outcome 24 (0xFFFFFFFE ∷ 0xFFFFFFFF ∷ 0xFFFFFFFF ∷ [])) ≡ record { refusal = 7; value = pos 0 })
    × (number (to_fixnum_outcome 24 (0 ∷ 0 ∷ [])) ≡ record { refusal = 7; value = pos 0 })
    × (number (to_fixnum_outcome 64 (0 ∷ 0 ∷ 1 ∷ 0 ∷ [])) ≡ record { refusal = 7; value = pos 0 })
    -- no limb; and no width either, which comes first
    × (number (to_fixnum_outcome 24 []) ≡ record { refusal = 7; value = pos 0 })
    × (number (to_fixnum_outcome 23 []) ≡ record { refusal = 1; value = pos 0 })
    × (number (to_fixnum_outcome 23 (5 ∷ 0 ∷ [])) ≡ record { refusal = 1; value = pos 0 })
    × (number (to_fixnum_outcome 65 (5 ∷ [])) ≡ record { refusal = 1; value = pos 0 })
unfolding odd testbit halvings bit_length cons_bit of_bits fits fill least_width largest_width is_width on_top value limb_count is_shortest guard guard_at most_limbs has_limbs is_operand
    operand number to_fixnum_outcome
cases-to-fixnum = (refl, refl, refl, refl, refl, refl, refl, refl, refl, refl, refl, refl, refl, refl, refl, refl, refl, refl, refl, refl, refl, refl)

pub cases-to-limbs :
    -- 2^23 - 1 and 2^23, -2^23 and one less, in a buffer of two limbs from its second on
    (written (to_limbs_outcome 24 (pos 8388607)) (7 ∷ 7 ∷ []) 1 ≡ record { refusal = 0; length = 1 })
    × (after (to_limbs_outcome 24 (pos 8388607)) (7 ∷ 7 ∷ []) 1 ≡ 7 ∷ 0x7FFFFF ∷ [])
    × (written (to_limbs_outcome 24 (pos 8388608)) (7 ∷ 7 ∷ []) 1 ≡ record { refusal = 4; length = 0 })
    × (after (to_limbs_outcome 24 (pos 8388608)) (7 ∷ 7 ∷ []) 1 ≡ 7 ∷ 7 ∷ [])
    × (written (to_limbs_outcome 24 (negsuc 8388607)) (7 ∷ 7 ∷ []) 1 ≡ record { refusal = 0; length = 1 })
    × (after (to_limbs_outcome 24 (negsuc 8388607)) (7 ∷ 7 ∷ []) 1 ≡ 7 ∷ 0xFF800000 ∷ [])
    × (written (to_limbs_outcome 24 (negsuc 8388608)) (7 ∷ 7 ∷ []) 1 ≡ record { refusal = 4; length = 0 })
    -- -2^62, and 2^62; and at width 64 both, and -2^63
    × (written (to_limbs_outcome 63 (negsuc 0x3FFFFFFFFFFFFFFF)) (7 ∷ 7 ∷ 7 ∷ []) 1 ≡ record { refusal = 0; length = 2 })
    × (after (to_limbs_outcome 63 (negsuc 0x3FFFFFFFFFFFFFFF)) (7 ∷ 7 ∷ 7 ∷ []) 1 ≡ 7 ∷ 0 ∷ 0xC0000000 ∷ [])
    × (written (to_limbs_outcome 63 (pos 0x4000000000000000)) (7 ∷ 7 ∷ 7 ∷ []) 1 ≡ record { refusal = 4; length = 0 })
    × (after (to_limbs_outcome 64 (pos 0x4000000000000000)) (7 ∷ 7 ∷ 7 ∷ []) 1 ≡ 7 ∷ 0 ∷ 0x40000000 ∷ [])
    × (after (to_limbs_outcome 64 (negsuc 0x7FFFFFFFFFFFFFFF)) (7 ∷ 7 ∷ 7 ∷ []) 1 ≡ 7 ∷ 0 ∷ 0x80000000 ∷ [])
    -- 2^31 takes a second limb for its sign, and -2^31 does not
    × (after (to_limbs_outcome 64 (pos 0x80000000)) (7 ∷ 7 ∷ 7 ∷ []) 0 ≡ 0x80000000 ∷ 0 ∷ 7 ∷ [])
    × (after (to_limbs_outcome 64 (negsuc 0x7FFFFFFF)) (7 ∷ 7 ∷ 7 ∷ []) 0 ≡ 0x80000000 ∷ 7 ∷ 7 ∷ [])
    -- a buffer one limb short; a first limb behind its end; 4 before 8, and 1 before 4
    × (written (to_limbs_outcome 64 (pos 0x80000000)) (7 ∷ 7 ∷ []) 1 ≡ record { refusal = 8; length = 0 })
    × (after (to_limbs_outcome 64 (pos 0x80000000)) (7 ∷ 7 ∷ []) 1 ≡ 7 ∷ 7 ∷ [])
    × (written (to_limbs_outcome 24 (pos 0)) (7 ∷ 7 ∷ []) 0xFFFFFFFFFFFFFFFF ≡ record { refusal = 8; length = 0 })
    × (written (to_limbs_outcome 24 (pos 8388608)) [] 0 ≡ record { refusal = 4; length = 0 })
    × (written (to_limbs_outcome 23 (pos 8388608)) [] 0 ≡ record { refusal = 1; length = 0 })
    × (written (to_limbs_outcome 65 (pos 0)) [] 0 ≡ record { refusal = 1; length = 0 })
unfolding halvings bit_length fits floor_div shift_right mod_ℕ least_width largest_width is_width limbs_of limb_count shortest guard guard_at map_done refusal_of capacity laid fitted count_of stored
    written afterwards to_limbs_outcome
cases-to-limbs = (refl, refl, refl, refl, refl, refl, refl, refl, refl, refl, refl, refl, refl, refl, refl, refl, refl, refl, refl, refl)

-- the limbs of -2^63, to a fixnum and back
pub case-back :
    copied (written (to_limbs_outcome 64 (number (to_fixnum_outcome 64 (0 ∷ 0x80000000 ∷ []))).value) (7 ∷ 7 ∷ 7 ∷ []) 1) 1
    (after (to_limbs_outcome 64 (number (to_fixnum_outcome 64 (0 ∷ 0x80000000 ∷ []))).value) (7 ∷ 7 ∷ 7 ∷ []) 1)
    ≡ 0 ∷ 0x80000000 ∷ []
unfolding odd testbit halvings bit_length cons_bit of_bits fits fill floor_div shift_right mod_ℕ least_width largest_width is_width on_top value limbs_of limb_count
    shortest guard guard_at map_done refusal_of capacity laid fitted count_of stored written afterwards is_shortest most_limbs has_limbs is_operand operand number to_fixnum_outcome to_limbs_outcome copied
case-back = refl
