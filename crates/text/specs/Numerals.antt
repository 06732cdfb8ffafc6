-- Texts and the integers that they are. A text is a list of bytes, in ASCII: a prefix that begins with #, a sign or none, and digits; or a sign
-- or none, 0x, 0b or neither, and digits.
--   digit c           ==  the digit that the byte c is: 0 to 9, a to f, A to F; 16, above every digit, where it is none
--   digit_of c        ==  the digit that it is, or none
--   are_digits b cs    ==  whether each byte is a digit in base b
--   numeral b cs      ==  the number that digits in base b are, the most significant first
--   byte_at cs i       ==  the byte at i, or 0 after the end
--   one_of a b c       ==  whether the byte c is a or b
--   letter_base c      ==  the base that a letter is after #: x 16, d 10, o 8, b 2; 0, which has no digits, where it is none of these
--   zero_base c        ==  the base where c comes after a 0: x 16, b 2; 10 where it is neither
--   prefix_base cs i   ==  the base of digits before which 0x, 0b or neither stands, at i
--   is_hash cs         ==  whether the text begins with #
--   sign_at cs         ==  where a sign may be: after # and its letter, or at the start
--   is_minus cs        ==  whether - is there
--   after_sign cs      ==  the place after the sign, or where it may be where there is none
--   base cs           ==  the base of the digits: by the letter after #, or by 0x or 0b after the sign
--   is_hex cs          ==  whether the base is 16
--   digits_from cs     ==  where the digits begin: after the sign, and after 0x or 0b
--   is_integer cs      ==  whether the text is an integer: from there on, one digit or more, and nothing else
--   integer cs        ==  the integer that it is
use Rattle.std.specs.Prelude.{ℕ, ◌+◌, ◌-◌, ◌*◌, Bool, true, cond, ◌&&◌, ◌||◌, List, [], ◌∷◌, eqb, leb, ltb, ℤ, length, get_or, drop, Option, Some, None}
use Rattle.words.specs.Sign.{with_sign}

unfoldable pub between : ℕ → ℕ → ℕ → Bool
between low high c = leb low c && leb c high

unfoldable pub digit : ℕ → ℕ
digit c = cond (between 48 57 c) (c - 48) (cond (between 65 70 c) (c - 55) (cond (between 97 102 c) (c - 87) 16))

unfoldable pub digit_of : ℕ → Option ℕ
digit_of c = cond (ltb (digit c) 16) (Some (digit c)) None

unfoldable pub are_digits : ℕ → List ℕ → Bool
are_digits b [] = true
are_digits b (c ∷ cs) = ltb (digit c) b && are_digits b cs

unfoldable pub numeral_from : ℕ → ℕ → List ℕ → ℕ
numeral_from b n [] = n
numeral_from b n (c ∷ cs) = numeral_from b (n * b + digit c) cs

unfoldable pub numeral : ℕ → List ℕ → ℕ
numeral b cs = numeral_from b 0 cs

unfoldable pub byte_at : List ℕ → ℕ → ℕ
byte_at cs i = get_or cs i 0

unfoldable pub one_of : ℕ → ℕ → ℕ → Bool
one_of a b c = eqb c a || eqb c b

unfoldable pub letter_base : ℕ → ℕ
letter_base c = cond (one_of 88 120 c) 16 (cond (one_of 68 100 c) 10 (cond (one_of 79 111 c) 8 (cond (one_of 66 98 c) 2 0)))

unfoldable pub zero_base : ℕ → ℕ
zero_base c = cond (one_of 88 120 c) 16 (cond (one_of 66 98 c) 2 10)

unfoldable pub prefix_base : List ℕ → ℕ → ℕ
prefix_base cs i = cond (eqb (byte_at cs i) 48) (zero_base (byte_at cs (i + 1))) 10

unfoldable pub is_hash : List ℕ → Bool
is_hash cs = eqb (byte_at cs 0) 35

unfoldable pub sign_at : List ℕ → ℕ
sign_at cs = cond (is_hash cs) 2 0

unfoldable pub is_minus : List ℕ → Bool
is_minus cs = eqb (byte_at cs (sign_at cs)) 45

unfoldable pub after_sign : List ℕ → ℕ
after_sign cs = cond (one_of 43 45 (byte_at cs (sign_at cs))) (sign_at cs + 1) (sign_at cs)

unfoldable pub base : List ℕ → ℕ
base cs = cond (is_hash cs) (letter_base (byte_at cs 1)) (prefix_base cs (after_sign cs))

unfoldable pub is_hex : List ℕ → Bool
is_hex cs = eqb (base cs) 16

unfoldable pub digits_from : List ℕ → ℕ
digits_from cs = cond (is_hash cs || eqb (base cs) 10) (after_sign cs) (after_sign cs + 2)

unfoldable pub is_integer : List ℕ → Bool
is_integer cs = ltb (digits_from cs) (length cs) && are_digits (base cs) (drop (digits_from cs) cs)

unfoldable pub integer : List ℕ → ℤ
integer cs = with_sign (is_minus cs) (numeral (base cs) (drop (digits_from cs) cs))
