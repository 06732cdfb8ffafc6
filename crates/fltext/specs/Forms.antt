-- The parts of a text that may be a flonum. A text is a list of bytes, in ASCII: a sign or none, and then inf, nan, or digits with a point or none and
-- an exponent or none. After 0x the digits are hexadecimal, and the exponent, after p, is one of 2; it is one of 10, after e, elsewhere.
--   same xs ys           ==  whether two texts are the same
--   is_minus cs           ==  whether a text begins with -
--   sign_length cs        ==  1 where it begins with a sign, and otherwise 0
--   after_sign cs         ==  the text after a sign, if it has one
--   is_infinite cs        ==  whether it is inf or inf.0
--   is_nan cs             ==  whether it is nan or nan.0
--   is_hex cs             ==  whether it begins with 0x
--   base h               ==  the base of the digits: 16 where they are hexadecimal, 10 elsewhere
--   radix h              ==  the number to which the exponent is one: 2, or 10
--   places h n           ==  what n digits after the point take from the exponent
--   digit_count b cs      ==  how many digits in base b it begins with
--   whole h cs           ==  these digits
--   point_length cs       ==  1 where it begins with a point, and otherwise 0
--   after_whole h cs      ==  the text after the digits, and after a point, if there is one
--   fraction h cs        ==  the digits there
--   tail h cs            ==  the text after them: an exponent, or none
--   is_letter h c         ==  whether a byte is the letter before an exponent
--   is_natural cs         ==  whether a text is one decimal digit or more, and nothing else
--   exponent_digits cs    ==  the digits of an exponent: after its letter and its sign
--   is_exponent h cs      ==  whether a text is an exponent, or empty
--   exponent cs          ==  the exponent without its sign: 0 of no text
--   is_negative cs        ==  whether the exponent's sign is -
--   digits h cs          ==  how many digits there are before and after the point
--   is_number h cs        ==  whether a text is a number: at least one digit, and then an exponent or none
use Rattle.std.specs.Prelude.{ℕ, suc, ◌+◌, ◌*◌, Bool, true, false, cond, ◌&&◌, ◌||◌, List, [], ◌∷◌, eqb, ltb, length, take, drop}
use Rattle.text.specs.Numerals.{digit, are_digits, numeral, byte_at, one_of}

unfoldable pub same : List ℕ → List ℕ → Bool
same [] [] = true
same [] (y ∷ ys) = false
same (x ∷ xs) [] = false
same (x ∷ xs) (y ∷ ys) = eqb x y && same xs ys

unfoldable pub is_minus : List ℕ → Bool
is_minus cs = eqb (byte_at cs 0) 45

unfoldable pub sign_length : List ℕ → ℕ
sign_length cs = cond (one_of 43 45 (byte_at cs 0)) 1 0

unfoldable pub after_sign : List ℕ → List ℕ
after_sign cs = drop (sign_length cs) cs

unfoldable pub is_infinite : List ℕ → Bool
is_infinite cs = same cs (105 ∷ 110 ∷ 102 ∷ []) || same cs (105 ∷ 110 ∷ 102 ∷ 46 ∷ 48 ∷ [])

unfoldable pub is_nan : List ℕ → Bool
is_nan cs = same cs (110 ∷ 97 ∷ 110 ∷ []) || same cs (110 ∷ 97 ∷ 110 ∷ 46 ∷ 48 ∷ [])

unfoldable pub is_hex : List ℕ → Bool
is_hex cs = eqb (byte_at cs 0) 48 && one_of 88 120 (byte_at cs 1)

unfoldable pub base : Bool → ℕ
base h = cond h 16 10

unfoldable pub radix : Bool → ℕ
radix h = cond h 2 10

unfoldable pub places : Bool → ℕ → ℕ
places h n = cond h (4 * n) n

unfoldable pub digit_count : ℕ → List ℕ → ℕ
digit_count b [] = 0
digit_count b (c ∷ cs) = cond (ltb (digit c) b) (suc (digit_count b cs)) 0

unfoldable pub whole : Bool → List ℕ → List ℕ
whole h cs = take (digit_count (base h) cs) cs

unfoldable pub point_length : List ℕ → ℕ
point_length cs = cond (eqb (byte_at cs 0) 46) 1 0

unfoldable pub after_whole : Bool → List ℕ → List ℕ
after_whole h cs = let rest = drop (digit_count (base h) cs) cs in drop (point_length rest) rest

unfoldable pub fraction : Bool → List ℕ → List ℕ
fraction h cs = whole h (after_whole h cs)

unfoldable pub tail : Bool → List ℕ → List ℕ
tail h cs = let rest = after_whole h cs in drop (digit_count (base h) rest) rest

unfoldable pub is_letter : Bool → ℕ → Bool
is_letter h c = cond h (one_of 80 112 c) (one_of 69 101 c)

unfoldable pub is_natural : List ℕ → Bool
is_natural cs = ltb 0 (length cs) && are_digits 10 cs

unfoldable pub exponent_digits : List ℕ → List ℕ
exponent_digits cs = after_sign (drop 1 cs)

unfoldable pub is_exponent : Bool → List ℕ → Bool
is_exponent h cs = eqb (length cs) 0 || (is_letter h (byte_at cs 0) && is_natural (exponent_digits cs))

unfoldable pub exponent : List ℕ → ℕ
exponent cs = numeral 10 (exponent_digits cs)

unfoldable pub is_negative : List ℕ → Bool
is_negative cs = is_minus (drop 1 cs)

unfoldable pub digits : Bool → List ℕ → ℕ
digits h cs = length (whole h cs) + length (fraction h cs)

unfoldable pub is_number : Bool → List ℕ → Bool
is_number h cs = ltb 0 (digits h cs) && is_exponent h (tail h cs)
