-- Which limb calls are refused, and by which number: document 01's refusals 7, 5, 6 and 8, in this order, and both sides of each limit.
-- Computed from the definitions; the expected answers are written out. Assumes nothing.
use Prim.Native.Nat.{ℕ, zero-le, ◌+◌, ◌^◌}
use native.Mathlib.Omega.{arith}
use mathlib.Core.Path.{◌≡◌, refl, ◌∙◌}
use mathlib.Core.Bool.{◌&&◌}
use mathlib.Core.List.{List, [], ◌∷◌, ◌++◌, map}
use lib.IntN.{ℤ, pos, negsuc}
use lib.ListN.{replicate}
use borrow.Author.Tests.{le-leb}
use Rattle.bits.specs.Testbit.{odd, testbit, halvings, bit_length, cons_bit, of_bits, is_negative, fits, fill}
use Rattle.bits.specs.Logical.{bitwise_not, bitwise, bitwise_and, bitwise_ior, bitwise_if}
use Rattle.bits.specs.Shift.{floor_div, shift_left, shift_right, arithmetic_shift}
use Rattle.bits.specs.Division.{mod_ℕ}
use Rattle.bits.specs.Field.{in_field, set_field, permute_field, rotate_index, reverse_index, copy_bit, bit_field, copy_bit_field, rotate_bit_field, reverse_bit_field}
use Rattle.bits.specs.Count.{ones_below, ones, bit_count, first_true, first_bit_set}
use Rattle.bits.specs.Range.{within}
use Rattle.bits.proofs.LengthBounds.{shift_left-length-exact}
use Rattle.outcomes.specs.Outcome.{Outcome, done, refuse, guard, guard_at, map_done, refusal_of}
use Rattle.outcomes.specs.Buffer.{capacity, laid, fitted, afterwards, count_of}
use Rattle.outcomes.proofs.OutcomeLaws.{passed}
use Rattle.limbwords.proofs.ValueLaws.{pos-injective}
use Rattle.limbstages.proofs.ShiftLaws.{sized-done, sized-refused}
use Rattle.limbwords.specs.Value.{on_top, value, limbs_of, limb_count, shortest, is_shortest}
use Rattle.limbstages.specs.declared.Written.{Written}
use Rattle.limbstages.specs.Buffer.{stored, written}
use Rattle.outcomes.specs.Number.{number}
use Rattle.limbstages.specs.Stages.{most_limbs, has_limbs, is_operand, untrimmed, operand, natural, is_field, field, is_new_bit, new_bit, sized}
use Rattle.limbs.specs.Operations.{not_outcome, bitwise_outcome, if_outcome, copy_bit_outcome, bit_field_outcome, copy_bit_field_outcome, shift_outcome, shift_left_outcome, shift_right_outcome, rotate_outcome, reverse_outcome, bit_count_outcome, length_outcome, first_bit_set_outcome, bit_set_outcome, word_outcome, trim_outcome}

abbrev zeros : ℕ → List ℕ
zeros n = replicate n 0

abbrev one : List ℕ
one = 1 ∷ []

-- 1 and -1 with a limb too many
abbrev padded : List ℕ
padded = 1 ∷ 0 ∷ []

abbrev padded' : List ℕ
padded' = 0xFFFFFFFF ∷ 0xFFFFFFFF ∷ []

abbrev before : ℤ
before = negsuc 0

-- a row: an outcome, and the refusal number that it must have, 0 for done
unfoldable pub refusals : List (Outcome ℤ × ℕ)
refusals =
    -- 7 for an operand of no limb or of 1,025, and not of 1 or 1,024, whatever the numbers are
    (not_outcome [], 7)
    ∷ (not_outcome (zeros 1025), 7)
    ∷ (not_outcome (zeros 1023 ++ one), 0)
    ∷ (bitwise_outcome ◌&&◌ [] one, 7)
    ∷ (bitwise_outcome ◌&&◌ one [], 7)
    ∷ (if_outcome [] one one, 7)
    ∷ (if_outcome one [] one, 7)
    ∷ (if_outcome one one [], 7)
    ∷ (if_outcome one one one, 0)
    ∷ (copy_bit_outcome [] (pos 32767) (pos 2), 7)
    ∷ (bit_field_outcome [] (pos 5) (pos 4), 7)
    ∷ (copy_bit_field_outcome [] (pos 5) (pos 4) one, 7)
    ∷ (copy_bit_field_outcome one (pos 5) (pos 4) [], 7)
    ∷ (shift_outcome [] (pos 32768), 7)
    ∷ (shift_left_outcome [] before, 7)
    ∷ (shift_right_outcome [] before, 7)
    ∷ (rotate_outcome [] (pos 5) (pos 4) before, 7)
    ∷ (reverse_outcome [] (pos 5) (pos 4), 7)
    ∷ (bit_count_outcome [], 7)
    ∷ (length_outcome [], 7)
    ∷ (first_bit_set_outcome [], 7)
    ∷ (bit_set_outcome [] before, 7)
    ∷ (word_outcome [], 7)
    -- 7 for a padded one too, in each place; a limb that carries the sign is no padding
    ∷ (not_outcome (0 ∷ []), 0)
    ∷ (not_outcome (0 ∷ 0 ∷ []), 7)
    ∷ (not_outcome padded, 7)
    ∷ (not_outcome (0xFFFFFFFF ∷ []), 0)
    ∷ (not_outcome padded', 7)
    ∷ (not_outcome (0x80000000 ∷ 0 ∷ []), 0)
    ∷ (not_outcome (0x80000000 ∷ 0xFFFFFFFF ∷ []), 7)
    ∷ (not_outcome (0x7FFFFFFF ∷ 0 ∷ []), 7)
    ∷ (not_outcome (0x7FFFFFFF ∷ 0xFFFFFFFF ∷ []), 0)
    ∷ (not_outcome (0 ∷ 0x80000000 ∷ 0 ∷ 0 ∷ []), 7)
    ∷ (bitwise_outcome ◌&&◌ padded one, 7)
    ∷ (bitwise_outcome ◌&&◌ one padded', 7)
    ∷ (if_outcome padded one one, 7)
    ∷ (if_outcome one padded' one, 7)
    ∷ (if_outcome one one padded, 7)
    ∷ (copy_bit_outcome padded (pos 32767) (pos 2), 7)
    ∷ (bit_field_outcome padded' (pos 5) (pos 4), 7)
    ∷ (copy_bit_field_outcome padded (pos 5) (pos 4) one, 7)
    ∷ (copy_bit_field_outcome one (pos 5) (pos 4) padded', 7)
    ∷ (shift_outcome padded (pos 32768), 7)
    ∷ (shift_left_outcome padded' before, 7)
    ∷ (shift_right_outcome padded before, 7)
    ∷ (rotate_outcome padded (pos 5) (pos 4) before, 7)
    ∷ (reverse_outcome padded' (pos 5) (pos 4), 7)
    ∷ (bit_count_outcome padded, 7)
    ∷ (length_outcome padded', 7)
    ∷ (first_bit_set_outcome padded, 7)
    ∷ (bit_set_outcome padded' before, 7)
    ∷ (word_outcome padded, 7)
    -- trim takes padded limbs, and refuses by the length alone
    ∷ (trim_outcome [], 7)
    ∷ (trim_outcome (zeros 1025), 7)
    ∷ (trim_outcome (zeros 1024), 0)
    ∷ (trim_outcome padded, 0)
    ∷ (trim_outcome one, 0)
    -- 5 for copy-bit outside positions 0 to 32,766 and new bits 0 and 1
    ∷ (copy_bit_outcome one before (pos 1), 5)
    ∷ (copy_bit_outcome one (pos 0) (pos 0), 0)
    ∷ (copy_bit_outcome one (pos 32766) (pos 1), 0)
    ∷ (copy_bit_outcome one (pos 32767) (pos 1), 5)
    ∷ (copy_bit_outcome one (pos 0) before, 5)
    ∷ (copy_bit_outcome one (pos 0) (pos 2), 5)
    -- 5 for a field unless 0 <= start <= end <= 32,767; an empty one is legal
    ∷ (bit_field_outcome one before (pos 4), 5)
    ∷ (bit_field_outcome one (pos 5) (pos 4), 5)
    ∷ (bit_field_outcome one (pos 5) (pos 5), 0)
    ∷ (bit_field_outcome one (pos 0) (pos 32767), 0)
    ∷ (bit_field_outcome one (pos 0) (pos 32768), 5)
    ∷ (copy_bit_field_outcome one (pos 5) (pos 4) one, 5)
    ∷ (copy_bit_field_outcome one (pos 32766) (pos 32767) one, 0)
    ∷ (copy_bit_field_outcome one (pos 32766) (pos 32768) one, 5)
    ∷ (rotate_outcome one (pos 5) (pos 4) (pos 0), 5)
    ∷ (rotate_outcome one (pos 32766) (pos 32767) (pos 0), 0)
    ∷ (rotate_outcome one (pos 32766) (pos 32768) (pos 0), 5)
    ∷ (rotate_outcome one (pos 5) (pos 5) (pos 9), 0)
    ∷ (rotate_outcome one (pos 5) (pos 5) before, 5)
    ∷ (reverse_outcome one (pos 5) (pos 4), 5)
    ∷ (reverse_outcome one (pos 32766) (pos 32767), 0)
    ∷ (reverse_outcome one (pos 32766) (pos 32768), 5)
    -- 5 for a negative distance of a one-way shift, and for a negative position; other positions are legal beyond every limb
    ∷ (shift_left_outcome one before, 5)
    ∷ (shift_right_outcome one before, 5)
    ∷ (shift_right_outcome one (pos 40000), 0)
    ∷ (shift_outcome one before, 0)
    ∷ (bit_set_outcome one before, 5)
    ∷ (bit_set_outcome one (pos 0), 0)
    ∷ (bit_set_outcome one (pos 40000), 0)
    -- 6 for limbs that are no word
    ∷ (word_outcome (0xFFFFFFFF ∷ 0x7FFFFFFF ∷ []), 0)
    ∷ (word_outcome (0 ∷ 0x80000000 ∷ 0 ∷ []), 6)
    ∷ []

pub cases-refusals : map (λ (row : Outcome ℤ × ℕ). refusal_of row.0) refusals ≡ map (λ (row : Outcome ℤ × ℕ). row.1) refusals
unfolding odd testbit halvings bit_length cons_bit of_bits is_negative fits fill bitwise_not bitwise bitwise_and bitwise_ior bitwise_if floor_div shift_left shift_right
    arithmetic_shift mod_ℕ in_field set_field permute_field rotate_index reverse_index copy_bit bit_field copy_bit_field rotate_bit_field reverse_bit_field ones_below ones
    bit_count first_true first_bit_set within guard guard_at refusal_of on_top value limb_count is_shortest most_limbs has_limbs is_operand untrimmed operand natural is_field field is_new_bit new_bit sized
    not_outcome bitwise_outcome if_outcome copy_bit_outcome bit_field_outcome copy_bit_field_outcome shift_outcome shift_left_outcome shift_right_outcome rotate_outcome
    reverse_outcome bit_count_outcome length_outcome first_bit_set_outcome bit_set_outcome word_outcome trim_outcome refusals
cases-refusals = refl

-- 6, and not 5, for a shift of 1 to 32,769 bits, which are more than 1,024 limbs
shifted : (n : ℕ) → (shift_outcome one (pos n) ≡ sized (shift_left (pos 1) n)) × (shift_left_outcome one (pos n) ≡ sized (shift_left (pos 1) n))
unfolding shift_outcome shift_left_outcome operand guard guard_at is_operand has_limbs is_shortest limb_count bit_length halvings most_limbs natural arithmetic_shift on_top value of_bits cons_bit testbit odd fill
shifted n = (refl, passed 5 _ (le-leb 0 n zero-le))

one-length : (n : ℕ) → bit_length (shift_left (pos 1) n) ≡ n + 1
unfolding bit_length halvings
one-length n = let e : 1 + n ≡ n + 1 = omega arith in shift_left-length-exact (pos 1) n (λ e. omega (arith, pos-injective 1 0 e)) ∙ e

fits-shift : sized (shift_left (pos 1) 32766) ≡ done (pos (2 ^ 32766))
unfolding limb_count shift_left
fits-shift = sized-done (shift_left (pos 1) 32766) (omega (arith, one-length 32766))

too_large : sized (shift_left (pos 1) 32767) ≡ refuse 6
unfolding limb_count
too_large = sized-refused (shift_left (pos 1) 32767) (omega (arith, one-length 32767))

pub cases-shift :
    (shift_outcome one (pos 32766) ≡ done (pos (2 ^ 32766)))
    × (shift_left_outcome one (pos 32766) ≡ done (pos (2 ^ 32766)))
    × (shift_outcome one (pos 32767) ≡ refuse 6)
    × (shift_left_outcome one (pos 32767) ≡ refuse 6)
cases-shift = ((shifted 32766).0 ∙ fits-shift, (shifted 32766).1 ∙ fits-shift, (shifted 32767).0 ∙ too_large, (shifted 32767).1 ∙ too_large)

-- the answer to an outcome, and the buffer afterwards, in a buffer of two limbs from a first limb on
abbrev answer : Outcome ℤ → ℕ → Written
answer o first = written o (7 ∷ 7 ∷ []) first

abbrev buffer : Outcome ℤ → ℕ → List ℕ
buffer o first = afterwards (stored o (7 ∷ 7 ∷ []) first) (7 ∷ 7 ∷ []) first

-- 8 for a buffer one limb short, from a first limb past its end on too; 7 and 5 come before it, and so does 6; a refused call writes nothing;
-- trim writes what is left without padding
pub cases-buffer :
    (answer (not_outcome (0x80000000 ∷ 0 ∷ [])) 0 ≡ record { refusal = 0; length = 2 })
    × (buffer (not_outcome (0x80000000 ∷ 0 ∷ [])) 0 ≡ 0x7FFFFFFF ∷ 0xFFFFFFFF ∷ [])
    × (answer (not_outcome (0x80000000 ∷ 0 ∷ [])) 1 ≡ record { refusal = 8; length = 0 })
    × (buffer (not_outcome (0x80000000 ∷ 0 ∷ [])) 1 ≡ 7 ∷ 7 ∷ [])
    × (answer (not_outcome (0 ∷ [])) 1 ≡ record { refusal = 0; length = 1 })
    × (buffer (not_outcome (0 ∷ [])) 1 ≡ 7 ∷ 0xFFFFFFFF ∷ [])
    × (answer (not_outcome (0 ∷ [])) 2 ≡ record { refusal = 8; length = 0 })
    × (answer (not_outcome (0 ∷ [])) 0xFFFFFFFFFFFFFFFF ≡ record { refusal = 8; length = 0 })
    × (answer (not_outcome []) 2 ≡ record { refusal = 7; length = 0 })
    × (answer (shift_left_outcome one before) 2 ≡ record { refusal = 5; length = 0 })
    × (answer (refuse 6) 2 ≡ record { refusal = 6; length = 0 })
    × (buffer (rotate_outcome (5 ∷ []) (pos 4) (pos 4) (pos 9)) 0 ≡ 5 ∷ 7 ∷ [])
    × (answer (not_outcome padded) 2 ≡ record { refusal = 7; length = 0 })
    × (buffer (not_outcome padded) 0 ≡ 7 ∷ 7 ∷ [])
    × (answer (trim_outcome []) 2 ≡ record { refusal = 7; length = 0 })
    × (answer (trim_outcome padded) 2 ≡ record { refusal = 8; length = 0 })
    × (buffer (trim_outcome padded) 2 ≡ 7 ∷ 7 ∷ [])
    × (answer (trim_outcome padded) 1 ≡ record { refusal = 0; length = 1 })
    × (buffer (trim_outcome padded) 1 ≡ 7 ∷ 1 ∷ [])
    × (buffer (trim_outcome padded') 0 ≡ 0xFFFFFFFF ∷ 7 ∷ [])
    × (buffer (trim_outcome (0x80000000 ∷ 0 ∷ 0 ∷ [])) 0 ≡ 0x80000000 ∷ 0 ∷ [])
    × (buffer (trim_outcome (0x7FFFFFFF ∷ 0xFFFFFFFF ∷ 0xFFFFFFFF ∷ [])) 0 ≡ 0x7FFFFFFF ∷ 0xFFFFFFFF ∷ [])
unfolding odd testbit halvings bit_length cons_bit of_bits is_negative fill bitwise_not floor_div shift_right mod_ℕ in_field set_field permute_field rotate_index
    rotate_bit_field within guard guard_at map_done refusal_of count_of capacity laid fitted afterwards on_top value limbs_of limb_count shortest stored written
    is_shortest most_limbs has_limbs is_operand untrimmed operand natural is_field field not_outcome shift_left_outcome rotate_outcome trim_outcome
cases-buffer = (refl, refl, refl, refl, refl, refl, refl, refl, refl, refl, refl, refl, refl, refl, refl, refl, refl, refl, refl, refl, refl, refl)

-- numbers: a position beyond the limbs, the least and the greatest word
pub cases-numbers :
    (number (bit_count_outcome []) ≡ record { refusal = 7; value = pos 0 })
    × (number (first_bit_set_outcome (0 ∷ 4 ∷ [])) ≡ record { refusal = 0; value = pos 34 })
    × (bit_set_outcome (0xFFFFFFFC ∷ []) (pos 1) ≡ done (pos 0))
    × (bit_set_outcome (0xFFFFFFFC ∷ []) (pos 40) ≡ done (pos 1))
    × (word_outcome (0 ∷ 0x80000000 ∷ []) ≡ done (negsuc 0x7FFFFFFFFFFFFFFF))
    × (word_outcome (0xFFFFFFFF ∷ 0x7FFFFFFF ∷ []) ≡ done (pos 0x7FFFFFFFFFFFFFFF))
unfolding odd testbit halvings bit_length cons_bit of_bits is_negative fill fits ones_below ones bit_count first_true first_bit_set on_top value
    guard guard_at number limb_count is_shortest most_limbs has_limbs is_operand operand natural bit_count_outcome first_bit_set_outcome bit_set_outcome word_outcome
cases-numbers = (refl, refl, refl, refl, refl, refl)
