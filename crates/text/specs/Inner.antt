-- What the functions inside `text` promise each other. No public call's contract cites these.
--   Lays z fits r out    ==  r counts the limbs of the shortest form of z, and the buffer begins with them, where they fit
--   parts cs             ==  the sign, the base, and where the digits begin
--   IsNumeral cs s b ds  ==  the text is an integer: s tells whether its sign is -, b is its base, ds are its digits
--   as_word n             ==  a number, where it is below 2^64
use Rattle.std.specs.Prelude.{ℕ, ◌^◌, ◌≡◌, Bool, true, cond, List, ltb, ℤ, take, drop, Option, Some, None, Result, Ok, Err}
use Rattle.limbwords.specs.Value.{limb_count, shortest}
use Rattle.text.specs.declared.ReadError.{ReadError}
use Rattle.text.specs.declared.form.Parts.{Parts}
use Rattle.text.specs.Numerals.{is_minus, base, digits_from, is_integer}

pub record Lays (z : ℤ) (fits : Bool) (r : Result ℕ ReadError) (out : List ℕ) : Type 0 where
  pub answer : r ≡ cond fits (Ok (limb_count z)) (Err ReadError.TooLarge)
  pub limbs : fits ≡ true → take (limb_count z) out ≡ shortest z

unfoldable pub parts : List ℕ → Parts
parts cs = record { negative = is_minus cs; base = base cs; start = digits_from cs }

pub record IsNumeral (cs : List ℕ) (negative : Bool) (b : ℕ) (ds : List ℕ) : Type 0 where
  pub integral : is_integer cs ≡ true
  pub sign : negative ≡ is_minus cs
  pub base : b ≡ base cs
  pub digits : ds ≡ drop (digits_from cs) cs

unfoldable pub as_word : ℕ → Option ℕ
as_word n = cond (ltb n (2 ^ 64)) (Some n) None
