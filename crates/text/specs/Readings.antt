-- What reading a text answers.
--   reading cs         ==  of a text as one signed 64-bit word
--   enough cs          ==  limbs that are enough while it is read: one for each eight hexadecimal digits, or two, and one for the sign
--   limb_reading cs k   ==  of a text as limbs in a buffer of k limbs: how many the integer has in its shortest form
--   Holds cs r out     ==  where r counts limbs, the buffer begins with the shortest limbs of the integer
-- A number of another base than 16 is too large from 2^64 on: longer ones are read in hexadecimal alone.
use Rattle.std.specs.Prelude.{ℕ, ◌+◌, ◌-◌, ◌/◌, ◌^◌, ◌≡◌, cond, ◌&&◌, ◌||◌, List, leb, ltb, nat_abs, length, take, ℤ, Result, Ok, Err}
use Rattle.bits.specs.Testbit.{fits}
use Rattle.limbwords.specs.Value.{limb_count, shortest}
use Rattle.text.specs.declared.ReadError.{ReadError}
use Rattle.text.specs.Numerals.{is_hex, digits_from, is_integer, integer}

unfoldable pub reading : List ℕ → Result ℤ ReadError
reading cs = cond (is_integer cs) (cond (fits 64 (integer cs)) (Ok (integer cs)) (Err ReadError.TooLarge)) (Err ReadError.Malformed)

unfoldable pub enough : List ℕ → ℕ
enough cs = cond (is_hex cs) ((length cs - digits_from cs + 7) / 8 + 1) 3

unfoldable pub limb_reading : List ℕ → ℕ → Result ℕ ReadError
limb_reading cs k =
    cond (is_integer cs)
    (cond ((is_hex cs || ltb (nat_abs (integer cs)) (2 ^ 64)) && leb (enough cs) k) (Ok (limb_count (integer cs))) (Err ReadError.TooLarge))
    (Err ReadError.Malformed)

pub record Holds (cs : List ℕ) (r : Result ℕ ReadError) (out : List ℕ) : Type 0 where
  pub limbs : (n : ℕ) → r ≡ Ok n → take n out ≡ shortest (integer cs)
