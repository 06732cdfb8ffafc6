-- Texts and what they are, from the definitions. Bytes: 35 is #, 43 is +, 45 is -, 48 is 0, 98 is b, 100 is d, 111 is o, 120 is x.
use mathlib.Core.Path.{◌≡◌, refl}
use mathlib.Core.List.{[], ◌∷◌}
use lib.IntN.{pos, negsuc}
use Rattle.bits.specs.Testbit.{halvings, bit_length, fits}
use Rattle.words.specs.Sign.{with_sign}
use Rattle.limbwords.specs.Value.{limb_count}
use Rattle.text.specs.declared.ReadError.{ReadError}
use Rattle.std.specs.Prelude.{Ok, Err}
use Rattle.text.specs.Numerals.{between, digit, are_digits, numeral_from, numeral, byte_at, one_of, letter_base, zero_base, prefix_base, is_hash, sign_at, is_minus, after_sign, base, digits_from, is_integer, integer, is_hex}
use Rattle.text.specs.Readings.{reading, enough, limb_reading}

-- -0x1F, 0X1f, -0b101, 0B1, +7, 31, 0, -2^63, 2^63
pub cases-read :
    (reading (45 ∷ 48 ∷ 120 ∷ 49 ∷ 70 ∷ []) ≡ Ok (negsuc 30))
    × (reading (48 ∷ 88 ∷ 49 ∷ 102 ∷ []) ≡ Ok (pos 31))
    × (reading (45 ∷ 48 ∷ 98 ∷ 49 ∷ 48 ∷ 49 ∷ []) ≡ Ok (negsuc 4))
    × (reading (48 ∷ 66 ∷ 49 ∷ []) ≡ Ok (pos 1))
    × (reading (43 ∷ 55 ∷ []) ≡ Ok (pos 7))
    × (reading (51 ∷ 49 ∷ []) ≡ Ok (pos 31))
    × (reading (48 ∷ []) ≡ Ok (pos 0))
    × (reading (45 ∷ 57 ∷ 50 ∷ 50 ∷ 51 ∷ 51 ∷ 55 ∷ 50 ∷ 48 ∷ 51 ∷ 54 ∷ 56 ∷ 53 ∷ 52 ∷ 55 ∷ 55 ∷ 53 ∷ 56 ∷ 48 ∷ 56 ∷ []) ≡ Ok (negsuc 9223372036854775807))
    × (reading (57 ∷ 50 ∷ 50 ∷ 51 ∷ 51 ∷ 55 ∷ 50 ∷ 48 ∷ 51 ∷ 54 ∷ 56 ∷ 53 ∷ 52 ∷ 55 ∷ 55 ∷ 53 ∷ 56 ∷ 48 ∷ 56 ∷ []) ≡ Err ReadError.TooLarge)
unfolding between digit are_digits numeral_from numeral byte_at one_of letter_base zero_base prefix_base is_hash sign_at is_minus after_sign base digits_from is_integer integer reading with_sign fits bit_length halvings
cases-read = (refl, refl, refl, refl, refl, refl, refl, refl, refl)

-- #x-1f, #X1F, #b101, #B+10, #d10, #D-9, #o17, #O7, #x0b1
pub cases-hash :
    (reading (35 ∷ 120 ∷ 45 ∷ 49 ∷ 102 ∷ []) ≡ Ok (negsuc 30))
    × (reading (35 ∷ 88 ∷ 49 ∷ 70 ∷ []) ≡ Ok (pos 31))
    × (reading (35 ∷ 98 ∷ 49 ∷ 48 ∷ 49 ∷ []) ≡ Ok (pos 5))
    × (reading (35 ∷ 66 ∷ 43 ∷ 49 ∷ 48 ∷ []) ≡ Ok (pos 2))
    × (reading (35 ∷ 100 ∷ 49 ∷ 48 ∷ []) ≡ Ok (pos 10))
    × (reading (35 ∷ 68 ∷ 45 ∷ 57 ∷ []) ≡ Ok (negsuc 8))
    × (reading (35 ∷ 111 ∷ 49 ∷ 55 ∷ []) ≡ Ok (pos 15))
    × (reading (35 ∷ 79 ∷ 55 ∷ []) ≡ Ok (pos 7))
    × (reading (35 ∷ 120 ∷ 48 ∷ 98 ∷ 49 ∷ []) ≡ Ok (pos 177))
unfolding between digit are_digits numeral_from numeral byte_at one_of letter_base zero_base prefix_base is_hash sign_at is_minus after_sign base digits_from is_integer integer reading with_sign fits bit_length halvings
cases-hash = (refl, refl, refl, refl, refl, refl, refl, refl, refl)

-- 2^63 - 1, 2^63 and -2^63 in hexadecimal and octal, after #
pub cases-limits :
    (reading (35 ∷ 120 ∷ 55 ∷ 102 ∷ 102 ∷ 102 ∷ 102 ∷ 102 ∷ 102 ∷ 102 ∷ 102 ∷ 102 ∷ 102 ∷ 102 ∷ 102 ∷ 102 ∷ 102 ∷ 102 ∷ []) ≡ Ok (pos 9223372036854775807))
    × (reading (35 ∷ 120 ∷ 56 ∷ 48 ∷ 48 ∷ 48 ∷ 48 ∷ 48 ∷ 48 ∷ 48 ∷ 48 ∷ 48 ∷ 48 ∷ 48 ∷ 48 ∷ 48 ∷ 48 ∷ 48 ∷ []) ≡ Err ReadError.TooLarge)
    × (reading (35 ∷ 120 ∷ 45 ∷ 56 ∷ 48 ∷ 48 ∷ 48 ∷ 48 ∷ 48 ∷ 48 ∷ 48 ∷ 48 ∷ 48 ∷ 48 ∷ 48 ∷ 48 ∷ 48 ∷ 48 ∷ 48 ∷ []) ≡ Ok (negsuc 9223372036854775807))
    × (reading (35 ∷ 111 ∷ 55 ∷ 55 ∷ 55 ∷ 55 ∷ 55 ∷ 55 ∷ 55 ∷ 55 ∷ 55 ∷ 55 ∷ 55 ∷ 55 ∷ 55 ∷ 55 ∷ 55 ∷ 55 ∷ 55 ∷ 55 ∷ 55 ∷ 55 ∷ 55 ∷ []) ≡ Ok (pos 9223372036854775807))
    × (reading (35 ∷ 111 ∷ 49 ∷ 48 ∷ 48 ∷ 48 ∷ 48 ∷ 48 ∷ 48 ∷ 48 ∷ 48 ∷ 48 ∷ 48 ∷ 48 ∷ 48 ∷ 48 ∷ 48 ∷ 48 ∷ 48 ∷ 48 ∷ 48 ∷ 48 ∷ 48 ∷ 48 ∷ []) ≡ Err ReadError.TooLarge)
    × (reading (35 ∷ 111 ∷ 45 ∷ 49 ∷ 48 ∷ 48 ∷ 48 ∷ 48 ∷ 48 ∷ 48 ∷ 48 ∷ 48 ∷ 48 ∷ 48 ∷ 48 ∷ 48 ∷ 48 ∷ 48 ∷ 48 ∷ 48 ∷ 48 ∷ 48 ∷ 48 ∷ 48 ∷ 48 ∷ []) ≡ Ok (negsuc 9223372036854775807))
unfolding between digit are_digits numeral_from numeral byte_at one_of letter_base zero_base prefix_base is_hash sign_at is_minus after_sign base digits_from is_integer integer reading with_sign fits bit_length halvings
cases-limits = (refl, refl, refl, refl, refl, refl)

-- no text, -, 0x, 0b, 0b2, 1F, --1, 0o7, -0x-1
pub cases-malformed :
    (reading [] ≡ Err ReadError.Malformed)
    × (reading (45 ∷ []) ≡ Err ReadError.Malformed)
    × (reading (48 ∷ 120 ∷ []) ≡ Err ReadError.Malformed)
    × (reading (48 ∷ 98 ∷ []) ≡ Err ReadError.Malformed)
    × (reading (48 ∷ 98 ∷ 50 ∷ []) ≡ Err ReadError.Malformed)
    × (reading (49 ∷ 70 ∷ []) ≡ Err ReadError.Malformed)
    × (reading (45 ∷ 45 ∷ 49 ∷ []) ≡ Err ReadError.Malformed)
    × (reading (48 ∷ 111 ∷ 55 ∷ []) ≡ Err ReadError.Malformed)
    × (reading (45 ∷ 48 ∷ 120 ∷ 45 ∷ 49 ∷ []) ≡ Err ReadError.Malformed)
unfolding between digit are_digits numeral_from numeral byte_at one_of letter_base zero_base prefix_base is_hash sign_at is_minus after_sign base digits_from is_integer integer reading with_sign fits bit_length halvings
cases-malformed = (refl, refl, refl, refl, refl, refl, refl, refl, refl)

-- #, #x, #x-, -#x1f, #-x1, # x1, #q1, #b2, #o8, #da, #b0b1, #x0x1, #x--1
pub cases-hash-malformed :
    (reading (35 ∷ []) ≡ Err ReadError.Malformed)
    × (reading (35 ∷ 120 ∷ []) ≡ Err ReadError.Malformed)
    × (reading (35 ∷ 120 ∷ 45 ∷ []) ≡ Err ReadError.Malformed)
    × (reading (45 ∷ 35 ∷ 120 ∷ 49 ∷ 102 ∷ []) ≡ Err ReadError.Malformed)
    × (reading (35 ∷ 45 ∷ 120 ∷ 49 ∷ []) ≡ Err ReadError.Malformed)
    × (reading (35 ∷ 32 ∷ 120 ∷ 49 ∷ []) ≡ Err ReadError.Malformed)
    × (reading (35 ∷ 113 ∷ 49 ∷ []) ≡ Err ReadError.Malformed)
    × (reading (35 ∷ 98 ∷ 50 ∷ []) ≡ Err ReadError.Malformed)
    × (reading (35 ∷ 111 ∷ 56 ∷ []) ≡ Err ReadError.Malformed)
    × (reading (35 ∷ 100 ∷ 97 ∷ []) ≡ Err ReadError.Malformed)
    × (reading (35 ∷ 98 ∷ 48 ∷ 98 ∷ 49 ∷ []) ≡ Err ReadError.Malformed)
    × (reading (35 ∷ 120 ∷ 48 ∷ 120 ∷ 49 ∷ []) ≡ Err ReadError.Malformed)
    × (reading (35 ∷ 120 ∷ 45 ∷ 45 ∷ 49 ∷ []) ≡ Err ReadError.Malformed)
unfolding between digit are_digits numeral_from numeral byte_at one_of letter_base zero_base prefix_base is_hash sign_at is_minus after_sign base digits_from is_integer integer reading with_sign fits bit_length halvings
cases-hash-malformed = (refl, refl, refl, refl, refl, refl, refl, refl, refl, refl, refl, refl, refl)

-- -0x100000000 and #x-100000000 in buffers of three limbs and of two; 2^64 and -#x1
pub cases-limbs :
    (limb_reading (45 ∷ 48 ∷ 120 ∷ 49 ∷ 48 ∷ 48 ∷ 48 ∷ 48 ∷ 48 ∷ 48 ∷ 48 ∷ 48 ∷ []) 3 ≡ Ok 2)
    × (limb_reading (45 ∷ 48 ∷ 120 ∷ 49 ∷ 48 ∷ 48 ∷ 48 ∷ 48 ∷ 48 ∷ 48 ∷ 48 ∷ 48 ∷ []) 2 ≡ Err ReadError.TooLarge)
    × (limb_reading (35 ∷ 120 ∷ 45 ∷ 49 ∷ 48 ∷ 48 ∷ 48 ∷ 48 ∷ 48 ∷ 48 ∷ 48 ∷ 48 ∷ []) 3 ≡ Ok 2)
    × (limb_reading (35 ∷ 120 ∷ 45 ∷ 49 ∷ 48 ∷ 48 ∷ 48 ∷ 48 ∷ 48 ∷ 48 ∷ 48 ∷ 48 ∷ []) 2 ≡ Err ReadError.TooLarge)
    × (limb_reading (35 ∷ 120 ∷ 49 ∷ 48 ∷ 48 ∷ 48 ∷ 48 ∷ 48 ∷ 48 ∷ 48 ∷ 48 ∷ 48 ∷ 48 ∷ 48 ∷ 48 ∷ 48 ∷ 48 ∷ 48 ∷ 48 ∷ []) 4 ≡ Ok 3)
    × (limb_reading (45 ∷ 35 ∷ 120 ∷ 49 ∷ []) 4 ≡ Err ReadError.Malformed)
unfolding between digit are_digits numeral_from numeral byte_at one_of letter_base zero_base prefix_base is_hash sign_at is_minus after_sign base digits_from is_integer integer is_hex enough limb_reading limb_count
    with_sign bit_length halvings
cases-limbs = (refl, refl, refl, refl, refl, refl)

-- -0b101 in buffers of three limbs and of two; 2^64 - 1 and 2^64 in octal, and 2^64 in decimal
pub cases-limbs-bounded :
    (limb_reading (45 ∷ 48 ∷ 98 ∷ 49 ∷ 48 ∷ 49 ∷ []) 3 ≡ Ok 1)
    × (limb_reading (45 ∷ 48 ∷ 98 ∷ 49 ∷ 48 ∷ 49 ∷ []) 2 ≡ Err ReadError.TooLarge)
    × (limb_reading (35 ∷ 111 ∷ 49 ∷ 55 ∷ 55 ∷ 55 ∷ 55 ∷ 55 ∷ 55 ∷ 55 ∷ 55 ∷ 55 ∷ 55 ∷ 55 ∷ 55 ∷ 55 ∷ 55 ∷ 55 ∷ 55 ∷ 55 ∷ 55 ∷ 55 ∷ 55 ∷ 55 ∷ []) 3 ≡ Ok 3)
    × (limb_reading (35 ∷ 111 ∷ 50 ∷ 48 ∷ 48 ∷ 48 ∷ 48 ∷ 48 ∷ 48 ∷ 48 ∷ 48 ∷ 48 ∷ 48 ∷ 48 ∷ 48 ∷ 48 ∷ 48 ∷ 48 ∷ 48 ∷ 48 ∷ 48 ∷ 48 ∷ 48 ∷ 48 ∷ []) 100 ≡ Err ReadError.TooLarge)
    × (limb_reading (35 ∷ 100 ∷ 49 ∷ 56 ∷ 52 ∷ 52 ∷ 54 ∷ 55 ∷ 52 ∷ 52 ∷ 48 ∷ 55 ∷ 51 ∷ 55 ∷ 48 ∷ 57 ∷ 53 ∷ 53 ∷ 49 ∷ 54 ∷ 49 ∷ 54 ∷ []) 100 ≡ Err ReadError.TooLarge)
unfolding between digit are_digits numeral_from numeral byte_at one_of letter_base zero_base prefix_base is_hash sign_at is_minus after_sign base digits_from is_integer integer is_hex enough limb_reading limb_count
    with_sign bit_length halvings
cases-limbs-bounded = (refl, refl, refl, refl, refl)
