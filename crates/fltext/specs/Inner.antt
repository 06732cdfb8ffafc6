-- What the functions inside `fltext` promise each other. No public call's contract cites these.
--   signed s n             ==  an exponent with its sign: the part of it that is positive and the part that is negative
--   exponent_of s cs        ==  the exponent that digits are, with its sign
--   exponent_reading h cs   ==  the exponent at the end of a number, or that there is none
--   parts h cs             ==  where the digits of a number end, where those after the point begin, and where they end
--   Digits h w f           ==  w and f are digits, and no more than a number may have
--   scaled h w f p         ==  the number of the digits w and f, times the radix to the power p
--   room_for n              ==  how many bits are enough for n digits, those of a power of the radix among them, in units of 2^-1075
--   Cleared n xs           ==  limbs that are 0, and room enough for so many digits
use Rattle.std.specs.Prelude.{ℕ, ◌+◌, ◌*◌, ◌^◌, ◌≤◌, ◌≡◌, Bool, true, cond, List, leb, length, drop, Result, Ok, Err}
use Rattle.text.specs.Numerals.{are_digits, numeral, numeral_from}
use Rattle.fltext.specs.declared.FlonumError.{FlonumError}
use Rattle.fltext.specs.declared.exponent.Exponent.{Exponent}
use Rattle.fltext.specs.declared.form.Parts.{Parts}
use Rattle.fltext.specs.Forms.{base, radix, digit_count, point_length, is_natural, is_exponent, exponent, is_negative}
use Rattle.fltext.specs.Readings.{limit}
use Rattle.text.specs.Naturals.{natural}

unfoldable pub signed : Bool → ℕ → Exponent
signed s n = record { up = cond s 0 n; down = cond s n 0 }

unfoldable pub exponent_of : Bool → List ℕ → Result Exponent FlonumError
exponent_of s cs = cond (is_natural cs) (cond (leb (numeral 10 cs) limit) (Ok (signed s (numeral 10 cs))) (Err FlonumError.TooLong)) (Err FlonumError.Malformed)

unfoldable pub exponent_reading : Bool → List ℕ → Result Exponent FlonumError
exponent_reading h cs = cond (is_exponent h cs) (cond (leb (exponent cs) limit) (Ok (signed (is_negative cs) (exponent cs))) (Err FlonumError.TooLong)) (Err FlonumError.Malformed)

unfoldable pub parts : Bool → List ℕ → Parts
parts h cs =
    let whole = digit_count (base h) cs in
    let from = whole + point_length (drop whole cs) in
    record { whole = whole; from = from; end = from + digit_count (base h) (drop from cs) }

pub record Digits (h : Bool) (w f : List ℕ) : Type 0 where
  pub whole : are_digits (base h) w ≡ true
  pub fraction : are_digits (base h) f ≡ true
  pub few : length w + length f ≤ limit

unfoldable pub scaled : Bool → List ℕ → List ℕ → ℕ → ℕ
scaled h w f p = numeral_from (base h) (numeral (base h) w) f * radix h ^ p

unfoldable pub room_for : ℕ → ℕ
room_for n = 4 * n + 1075

pub record Cleared (n : ℕ) (xs : List ℕ) : Type 0 where
  pub room : room_for n ≤ 32 * length xs
  pub zeros : natural xs ≡ 0
