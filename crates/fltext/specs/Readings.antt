-- What reading a text as a flonum answers: `round` of the kit's Float.Ieee says which flonum a fraction is, ties, subnormals, overflow and the sign of zero included.
--   limit                 ==  the most digits of a number, and its largest exponent: texts beyond these are too long
--   flonum s h w f u d    ==  the flonum of the digits w, then f after the point, with the exponent u - d and the sign s
--   number_reading s h cs  ==  of the digits and the exponent of a number
--   unsigned_reading s cs  ==  of a text after its sign
--   flonum_reading cs      ==  of a text
use Rattle.std.specs.Prelude.{ℕ, ◌+◌, ◌-◌, ◌*◌, ◌^◌, Bool, true, false, cond, ◌&&◌, List, leb, length, drop, Float, Result, Ok, Err}
use Rattle.std.specs.Float.{inf, nan, binary64}
use Rattle.std.specs.Float.Ieee.{round}
use Rattle.text.specs.Numerals.{numeral, numeral_from}
use Rattle.fltext.specs.declared.FlonumError.{FlonumError}
use Rattle.fltext.specs.Forms.{is_minus, after_sign, is_infinite, is_nan, is_hex, base, radix, places, whole, fraction, tail, exponent, is_negative, digits, is_number}

abbrev pub limit : ℕ
limit = 1500

unfoldable pub flonum : Bool → Bool → List ℕ → List ℕ → ℕ → ℕ → Float
flonum s h w f u d =
    let down = d + places h (length f) in
    round binary64 s (numeral_from (base h) (numeral (base h) w) f * radix h ^ (u - down)) (radix h ^ (down - u))

unfoldable pub number_reading : Bool → Bool → List ℕ → Result Float FlonumError
number_reading s h cs =
    let e = exponent (tail h cs) in
    let negative = is_negative (tail h cs) in
    cond (is_number h cs)
    (cond (leb (digits h cs) limit && leb e limit) (Ok (flonum s h (whole h cs) (fraction h cs) (cond negative 0 e) (cond negative e 0))) (Err FlonumError.TooLong))
    (Err FlonumError.Malformed)

unfoldable pub unsigned_reading : Bool → List ℕ → Result Float FlonumError
unsigned_reading s cs =
    cond (is_infinite cs) (Ok (inf s))
    (cond (is_nan cs) (Ok nan) (cond (is_hex cs) (number_reading s true (drop 2 cs)) (number_reading s false cs)))

unfoldable pub flonum_reading : List ℕ → Result Float FlonumError
flonum_reading cs = unsigned_reading (is_minus cs) (after_sign cs)
