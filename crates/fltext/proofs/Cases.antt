-- Texts and the flonums that they are, from the definitions. Each text stands in the comment above; its bytes are in ASCII. Assumes nothing.
use mathlib.Core.Path.{◌≡◌, refl}
use mathlib.Core.Bool.{true, false}
use mathlib.Core.List.{[], ◌∷◌}
use lib.Count.{count_trailing_zeros}
use lib.IntN.{pos, negsuc}
use lib.ListN.{replicate}
use lib.Ieee.{nan, inf, fin, span, climb, size, odd, units, round}
use Rattle.text.specs.Numerals.{between, digit, are_digits, numeral_from, numeral, byte_at, one_of}
use Rattle.fltext.specs.declared.FlonumError.{FlonumError}
use Rattle.std.specs.Prelude.{Ok, Err}
use Rattle.fltext.specs.Forms.{same, is_minus, sign_length, after_sign, is_infinite, is_nan, is_hex, base, radix, places, digit_count, whole, point_length, after_whole, fraction, tail, is_letter, is_natural, exponent_digits, is_exponent, exponent, is_negative, digits, is_number}
use Rattle.fltext.specs.Readings.{flonum, number_reading, unsigned_reading, flonum_reading}

-- 0.1, -0, 1e22, .5, 5., +12.50E-1, 1e23
pub cases-decimal :
    (flonum_reading (48 ∷ 46 ∷ 49 ∷ []) ≡ Ok (fin false 3602879701896397 (negsuc 54)))
    × (flonum_reading (45 ∷ 48 ∷ []) ≡ Ok (fin true 0 (pos 0)))
    × (flonum_reading (49 ∷ 101 ∷ 50 ∷ 50 ∷ []) ≡ Ok (fin false 2384185791015625 (pos 22)))
    × (flonum_reading (46 ∷ 53 ∷ []) ≡ Ok (fin false 1 (negsuc 0)))
    × (flonum_reading (53 ∷ 46 ∷ []) ≡ Ok (fin false 5 (pos 0)))
    × (flonum_reading (43 ∷ 49 ∷ 50 ∷ 46 ∷ 53 ∷ 48 ∷ 69 ∷ 45 ∷ 49 ∷ []) ≡ Ok (fin false 5 (negsuc 1)))
    × (flonum_reading (49 ∷ 101 ∷ 50 ∷ 51 ∷ []) ≡ Ok (fin false 2980232238769531 (pos 25)))
unfolding between digit are_digits numeral_from numeral byte_at one_of span climb size count_trailing_zeros odd units round same is_minus sign_length after_sign is_infinite is_nan is_hex base radix places digit_count whole point_length after_whole fraction tail is_letter is_natural exponent_digits is_exponent exponent is_negative digits is_number flonum number_reading unsigned_reading flonum_reading
cases-decimal = (refl, refl, refl, refl, refl, refl, refl)

-- at the ends and at ties: 9007199254740993, 9007199254740995, 5e-324, 2.4703282292062327e-324, 2.4703282292062328e-324, 1.7976931348623158e308, 1.7976931348623159e308, -1e400, -1e-400, 2.2250738585072011e-308
pub cases-rounding :
    (flonum_reading (57 ∷ 48 ∷ 48 ∷ 55 ∷ 49 ∷ 57 ∷ 57 ∷ 50 ∷ 53 ∷ 52 ∷ 55 ∷ 52 ∷ 48 ∷ 57 ∷ 57 ∷ 51 ∷ []) ≡ Ok (fin false 1 (pos 53)))
    × (flonum_reading (57 ∷ 48 ∷ 48 ∷ 55 ∷ 49 ∷ 57 ∷ 57 ∷ 50 ∷ 53 ∷ 52 ∷ 55 ∷ 52 ∷ 48 ∷ 57 ∷ 57 ∷ 53 ∷ []) ≡ Ok (fin false 2251799813685249 (pos 2)))
    × (flonum_reading (53 ∷ 101 ∷ 45 ∷ 51 ∷ 50 ∷ 52 ∷ []) ≡ Ok (fin false 1 (negsuc 1073)))
    × (flonum_reading (50 ∷ 46 ∷ 52 ∷ 55 ∷ 48 ∷ 51 ∷ 50 ∷ 56 ∷ 50 ∷ 50 ∷ 57 ∷ 50 ∷ 48 ∷ 54 ∷ 50 ∷ 51 ∷ 50 ∷ 55 ∷ 101 ∷ 45 ∷ 51 ∷ 50 ∷ 52 ∷ []) ≡ Ok (fin false 0 (pos 0)))
    × (flonum_reading (50 ∷ 46 ∷ 52 ∷ 55 ∷ 48 ∷ 51 ∷ 50 ∷ 56 ∷ 50 ∷ 50 ∷ 57 ∷ 50 ∷ 48 ∷ 54 ∷ 50 ∷ 51 ∷ 50 ∷ 56 ∷ 101 ∷ 45 ∷ 51 ∷ 50 ∷ 52 ∷ []) ≡ Ok (fin false 1 (negsuc 1073)))
    × (flonum_reading (49 ∷ 46 ∷ 55 ∷ 57 ∷ 55 ∷ 54 ∷ 57 ∷ 51 ∷ 49 ∷ 51 ∷ 52 ∷ 56 ∷ 54 ∷ 50 ∷ 51 ∷ 49 ∷ 53 ∷ 56 ∷ 101 ∷ 51 ∷ 48 ∷ 56 ∷ []) ≡ Ok (fin false 9007199254740991 (pos 971)))
    × (flonum_reading (49 ∷ 46 ∷ 55 ∷ 57 ∷ 55 ∷ 54 ∷ 57 ∷ 51 ∷ 49 ∷ 51 ∷ 52 ∷ 56 ∷ 54 ∷ 50 ∷ 51 ∷ 49 ∷ 53 ∷ 57 ∷ 101 ∷ 51 ∷ 48 ∷ 56 ∷ []) ≡ Ok (inf false))
    × (flonum_reading (45 ∷ 49 ∷ 101 ∷ 52 ∷ 48 ∷ 48 ∷ []) ≡ Ok (inf true))
    × (flonum_reading (45 ∷ 49 ∷ 101 ∷ 45 ∷ 52 ∷ 48 ∷ 48 ∷ []) ≡ Ok (fin true 0 (pos 0)))
    × (flonum_reading (50 ∷ 46 ∷ 50 ∷ 50 ∷ 53 ∷ 48 ∷ 55 ∷ 51 ∷ 56 ∷ 53 ∷ 56 ∷ 53 ∷ 48 ∷ 55 ∷ 50 ∷ 48 ∷ 49 ∷ 49 ∷ 101 ∷ 45 ∷ 51 ∷ 48 ∷ 56 ∷ []) ≡ Ok (fin false 4503599627370495 (negsuc 1073)))
unfolding between digit are_digits numeral_from numeral byte_at one_of span climb size count_trailing_zeros odd units round same is_minus sign_length after_sign is_infinite is_nan is_hex base radix places digit_count whole point_length after_whole fraction tail is_letter is_natural exponent_digits is_exponent exponent is_negative digits is_number flonum number_reading unsigned_reading flonum_reading
cases-rounding = (refl, refl, refl, refl, refl, refl, refl, refl, refl, refl)

-- 0x1.8p1, -0X.8P-1, 0x1e5, 0x1.fffffffffffffp+1023, 0x0.0000000000001p-1022, 0x1.00000000000008p0, 0x1.00000000000018p0
pub cases-hexadecimal :
    (flonum_reading (48 ∷ 120 ∷ 49 ∷ 46 ∷ 56 ∷ 112 ∷ 49 ∷ []) ≡ Ok (fin false 3 (pos 0)))
    × (flonum_reading (45 ∷ 48 ∷ 88 ∷ 46 ∷ 56 ∷ 80 ∷ 45 ∷ 49 ∷ []) ≡ Ok (fin true 1 (negsuc 1)))
    × (flonum_reading (48 ∷ 120 ∷ 49 ∷ 101 ∷ 53 ∷ []) ≡ Ok (fin false 485 (pos 0)))
    × (flonum_reading (48 ∷ 120 ∷ 49 ∷ 46 ∷ 102 ∷ 102 ∷ 102 ∷ 102 ∷ 102 ∷ 102 ∷ 102 ∷ 102 ∷ 102 ∷ 102 ∷ 102 ∷ 102 ∷ 102 ∷ 112 ∷ 43 ∷ 49 ∷ 48 ∷ 50 ∷ 51 ∷ []) ≡ Ok (fin false 9007199254740991 (pos 971)))
    × (flonum_reading (48 ∷ 120 ∷ 48 ∷ 46 ∷ 48 ∷ 48 ∷ 48 ∷ 48 ∷ 48 ∷ 48 ∷ 48 ∷ 48 ∷ 48 ∷ 48 ∷ 48 ∷ 48 ∷ 49 ∷ 112 ∷ 45 ∷ 49 ∷ 48 ∷ 50 ∷ 50 ∷ []) ≡ Ok (fin false 1 (negsuc 1073)))
    × (flonum_reading (48 ∷ 120 ∷ 49 ∷ 46 ∷ 48 ∷ 48 ∷ 48 ∷ 48 ∷ 48 ∷ 48 ∷ 48 ∷ 48 ∷ 48 ∷ 48 ∷ 48 ∷ 48 ∷ 48 ∷ 56 ∷ 112 ∷ 48 ∷ []) ≡ Ok (fin false 1 (pos 0)))
    × (flonum_reading (48 ∷ 120 ∷ 49 ∷ 46 ∷ 48 ∷ 48 ∷ 48 ∷ 48 ∷ 48 ∷ 48 ∷ 48 ∷ 48 ∷ 48 ∷ 48 ∷ 48 ∷ 48 ∷ 49 ∷ 56 ∷ 112 ∷ 48 ∷ []) ≡ Ok (fin false 2251799813685249 (negsuc 50)))
unfolding between digit are_digits numeral_from numeral byte_at one_of span climb size count_trailing_zeros odd units round same is_minus sign_length after_sign is_infinite is_nan is_hex base radix places digit_count whole point_length after_whole fraction tail is_letter is_natural exponent_digits is_exponent exponent is_negative digits is_number flonum number_reading unsigned_reading flonum_reading
cases-hexadecimal = (refl, refl, refl, refl, refl, refl, refl)

-- inf, -inf, +inf.0, nan, -nan.0
pub cases-words :
    (flonum_reading (105 ∷ 110 ∷ 102 ∷ []) ≡ Ok (inf false))
    × (flonum_reading (45 ∷ 105 ∷ 110 ∷ 102 ∷ []) ≡ Ok (inf true))
    × (flonum_reading (43 ∷ 105 ∷ 110 ∷ 102 ∷ 46 ∷ 48 ∷ []) ≡ Ok (inf false))
    × (flonum_reading (110 ∷ 97 ∷ 110 ∷ []) ≡ Ok nan)
    × (flonum_reading (45 ∷ 110 ∷ 97 ∷ 110 ∷ 46 ∷ 48 ∷ []) ≡ Ok nan)
unfolding between digit are_digits numeral_from numeral byte_at one_of span climb size count_trailing_zeros odd units round same is_minus sign_length after_sign is_infinite is_nan is_hex base radix places digit_count whole point_length after_whole fraction tail is_letter is_natural exponent_digits is_exponent exponent is_negative digits is_number flonum number_reading unsigned_reading flonum_reading
cases-words = (refl, refl, refl, refl, refl)

-- no text, ., -, e5, 1e, 1e+, 0x, 0x.p1, 1.2.3, 1f, +-1, infinity, NAN, 0x1p, 1e5.0, and a blank before 1
pub cases-malformed :
    (flonum_reading [] ≡ Err FlonumError.Malformed)
    × (flonum_reading (46 ∷ []) ≡ Err FlonumError.Malformed)
    × (flonum_reading (45 ∷ []) ≡ Err FlonumError.Malformed)
    × (flonum_reading (101 ∷ 53 ∷ []) ≡ Err FlonumError.Malformed)
    × (flonum_reading (49 ∷ 101 ∷ []) ≡ Err FlonumError.Malformed)
    × (flonum_reading (49 ∷ 101 ∷ 43 ∷ []) ≡ Err FlonumError.Malformed)
    × (flonum_reading (48 ∷ 120 ∷ []) ≡ Err FlonumError.Malformed)
    × (flonum_reading (48 ∷ 120 ∷ 46 ∷ 112 ∷ 49 ∷ []) ≡ Err FlonumError.Malformed)
    × (flonum_reading (49 ∷ 46 ∷ 50 ∷ 46 ∷ 51 ∷ []) ≡ Err FlonumError.Malformed)
    × (flonum_reading (49 ∷ 102 ∷ []) ≡ Err FlonumError.Malformed)
    × (flonum_reading (43 ∷ 45 ∷ 49 ∷ []) ≡ Err FlonumError.Malformed)
    × (flonum_reading (105 ∷ 110 ∷ 102 ∷ 105 ∷ 110 ∷ 105 ∷ 116 ∷ 121 ∷ []) ≡ Err FlonumError.Malformed)
    × (flonum_reading (78 ∷ 65 ∷ 78 ∷ []) ≡ Err FlonumError.Malformed)
    × (flonum_reading (48 ∷ 120 ∷ 49 ∷ 112 ∷ []) ≡ Err FlonumError.Malformed)
    × (flonum_reading (49 ∷ 101 ∷ 53 ∷ 46 ∷ 48 ∷ []) ≡ Err FlonumError.Malformed)
    × (flonum_reading (32 ∷ 49 ∷ []) ≡ Err FlonumError.Malformed)
unfolding between digit are_digits numeral_from numeral byte_at one_of span climb size count_trailing_zeros odd units round same is_minus sign_length after_sign is_infinite is_nan is_hex base radix places digit_count whole point_length after_whole fraction tail is_letter is_natural exponent_digits is_exponent exponent is_negative digits is_number flonum number_reading unsigned_reading flonum_reading
cases-malformed = (refl, refl, refl, refl, refl, refl, refl, refl, refl, refl, refl, refl, refl, refl, refl, refl)

-- 1e1500, 1e1501, 1e-1500, -0x1p-1501, 0e99999999999999999999
pub cases-limit :
    (flonum_reading (49 ∷ 101 ∷ 49 ∷ 53 ∷ 48 ∷ 48 ∷ []) ≡ Ok (inf false))
    × (flonum_reading (49 ∷ 101 ∷ 49 ∷ 53 ∷ 48 ∷ 49 ∷ []) ≡ Err FlonumError.TooLong)
    × (flonum_reading (49 ∷ 101 ∷ 45 ∷ 49 ∷ 53 ∷ 48 ∷ 48 ∷ []) ≡ Ok (fin false 0 (pos 0)))
    × (flonum_reading (45 ∷ 48 ∷ 120 ∷ 49 ∷ 112 ∷ 45 ∷ 49 ∷ 53 ∷ 48 ∷ 49 ∷ []) ≡ Err FlonumError.TooLong)
    × (flonum_reading (48 ∷ 101 ∷ 57 ∷ 57 ∷ 57 ∷ 57 ∷ 57 ∷ 57 ∷ 57 ∷ 57 ∷ 57 ∷ 57 ∷ 57 ∷ 57 ∷ 57 ∷ 57 ∷ 57 ∷ 57 ∷ 57 ∷ 57 ∷ 57 ∷ 57 ∷ []) ≡ Err FlonumError.TooLong)
unfolding between digit are_digits numeral_from numeral byte_at one_of span climb size count_trailing_zeros odd units round same is_minus sign_length after_sign is_infinite is_nan is_hex base radix places digit_count whole point_length after_whole fraction tail is_letter is_natural exponent_digits is_exponent exponent is_negative digits is_number flonum number_reading unsigned_reading flonum_reading
cases-limit = (refl, refl, refl, refl, refl)

-- 1,500 zeros and 1,501
pub cases-digits :
    (flonum_reading (replicate 1500 48) ≡ Ok (fin false 0 (pos 0)))
    × (flonum_reading (replicate 1501 48) ≡ Err FlonumError.TooLong)
unfolding between digit are_digits numeral_from numeral byte_at one_of span climb size count_trailing_zeros odd units round same is_minus sign_length after_sign is_infinite is_nan is_hex base radix places digit_count whole point_length after_whole fraction tail is_letter is_natural exponent_digits is_exponent exponent is_negative digits is_number flonum number_reading unsigned_reading flonum_reading
cases-digits = (refl, refl)
