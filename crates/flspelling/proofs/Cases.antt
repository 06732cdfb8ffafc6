-- Flonums and their texts, from the definitions. Bytes: 43 is +, 45 is -, 46 is a point, 48 is 0, 112 is p, 120 is x.
use mathlib.Core.Path.{◌≡◌, refl}
use mathlib.Core.Bool.{true, false}
use mathlib.Core.List.{[], ◌∷◌}
use lib.IntN.{pos, negsuc}
use lib.Ieee.{nan, inf, fin, binary64, round, to_bits}
use Rattle.spelling.specs.Spellings.{glyph}
use Rattle.flspelling.specs.Spellings.{fraction, pointed, last_digit, place, decimal, power, leading, scale, magnitude, sign, text_of_bits, hex_float}

-- 1.0 is 0x1p+0, 0.1 is 0x1.999999999999ap-4, -2.5 is -0x1.4p+1, 0.0 and -0.0 are 0x0p+0 and -0x0p+0
pub cases-usual :
    (hex_float (fin false 1 (pos 0)) ≡ 48 ∷ 120 ∷ 49 ∷ 112 ∷ 43 ∷ 48 ∷ [])
    × (hex_float (round binary64 false 1 10) ≡ 48 ∷ 120 ∷ 49 ∷ 46 ∷ 57 ∷ 57 ∷ 57 ∷ 57 ∷ 57 ∷ 57 ∷ 57 ∷ 57 ∷ 57 ∷ 57 ∷ 57 ∷ 57 ∷ 97 ∷ 112 ∷ 45 ∷ 52 ∷ [])
    × (hex_float (fin true 5 (negsuc 0)) ≡ 45 ∷ 48 ∷ 120 ∷ 49 ∷ 46 ∷ 52 ∷ 112 ∷ 43 ∷ 49 ∷ [])
    × (hex_float (fin false 0 (pos 0)) ≡ 48 ∷ 120 ∷ 48 ∷ 112 ∷ 43 ∷ 48 ∷ [])
    × (hex_float (fin true 0 (pos 0)) ≡ 45 ∷ 48 ∷ 120 ∷ 48 ∷ 112 ∷ 43 ∷ 48 ∷ [])
unfolding hex_float text_of_bits sign magnitude scale leading power decimal place last_digit pointed fraction glyph round to_bits
cases-usual = (refl, refl, refl, refl, refl)

-- the smallest subnormal is 0x0.0000000000001p-1022, the largest finite one 0x1.fffffffffffffp+1023; and inf, -inf, nan
pub cases-ends :
    (hex_float (fin false 1 (negsuc 1073)) ≡ 48 ∷ 120 ∷ 48 ∷ 46 ∷ 48 ∷ 48 ∷ 48 ∷ 48 ∷ 48 ∷ 48 ∷ 48 ∷ 48 ∷ 48 ∷ 48 ∷ 48 ∷ 48 ∷ 49 ∷ 112 ∷ 45 ∷ 49 ∷ 48 ∷ 50 ∷ 50 ∷ [])
    × (hex_float (fin false 0x1FFFFFFFFFFFFF (pos 971)) ≡ 48 ∷ 120 ∷ 49 ∷ 46 ∷ 102 ∷ 102 ∷ 102 ∷ 102 ∷ 102 ∷ 102 ∷ 102 ∷ 102 ∷ 102 ∷ 102 ∷ 102 ∷ 102 ∷ 102 ∷ 112 ∷ 43 ∷ 49 ∷ 48 ∷ 50 ∷ 51 ∷ [])
    × (hex_float (inf false) ≡ 105 ∷ 110 ∷ 102 ∷ [])
    × (hex_float (inf true) ≡ 45 ∷ 105 ∷ 110 ∷ 102 ∷ [])
    × (hex_float nan ≡ 110 ∷ 97 ∷ 110 ∷ [])
unfolding hex_float text_of_bits sign magnitude scale leading power decimal place last_digit pointed fraction glyph to_bits
cases-ends = (refl, refl, refl, refl, refl)
