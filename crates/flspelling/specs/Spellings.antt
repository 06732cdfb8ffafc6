-- The text of a flonum, as C prints it by %a, and what spelling one answers. A text is a list of bytes, in ASCII.
--   fraction k m        ==  the hexadecimal digits of m / 2 ^ 52, which is below 1: at most k, and none where the rest is 0
--   pointed m           ==  a point and these digits, of which there are at most 13; nothing where m is 0
--   last_digit n         ==  the byte of the last decimal digit of n
--   place n p           ==  the decimal digit of n that counts p, a power of ten; nothing where n is less
--   decimal n           ==  n in decimal, if it is below 10000
--   power f             ==  the power of two of the exponent field f: p, a sign and the exponent, f - 1023
--   leading e           ==  the whole part of the significand, after 0x: 0 where the exponent field e is 0, else 1
--   scale e m           ==  the exponent field whose power is printed: a subnormal has that of the field 1, and zero has 2 ^ 0
--   magnitude e m       ==  the text of the flonum with the exponent field e and the fraction m, without its sign
--   sign b              ==  a - where the highest of the 64 bits b is 1
--   text_of_bits b        ==  the text of the flonum with the bits b
--   hex_float x          ==  the text of a flonum
--   spelling x out      ==  that text; refusal 8 where the buffer has less than 24 bytes
--   Spells x out r out' ==  r counts the bytes of that text, or is that refusal, and they are now at the start of the buffer
use Rattle.std.specs.Prelude.{ℕ, zero, suc, ◌+◌, ◌*◌, ◌-◌, ◌/◌, ◌%◌, ◌^◌, ◌≡◌, cond, List, [], ◌∷◌, ◌++◌, eqb, leb, ltb, length, Float, Result}
use Rattle.std.specs.Float.{binary64}
use Rattle.std.specs.Float.Ieee.{to_bits}
use Rattle.outcomes.specs.Outcome.{Outcome, done, guard, map_done}
use Rattle.outcomes.specs.Refusal.{outcome_of}
use Rattle.outcomes.specs.declared.refusal.Refusal.{Refusal}
use Rattle.outcomes.specs.Buffer.{afterwards}
use Rattle.spelling.specs.Spellings.{glyph}

unfoldable pub fraction : ℕ → ℕ → List ℕ
fraction zero m = []
fraction (suc k) m = cond (eqb m 0) [] (glyph (m / 2 ^ 48) ∷ fraction k (m % 2 ^ 48 * 16))

unfoldable pub pointed : ℕ → List ℕ
pointed m = cond (eqb m 0) [] (46 ∷ fraction 13 m)

unfoldable pub last_digit : ℕ → ℕ
last_digit n = 48 + n % 10

unfoldable pub place : ℕ → ℕ → List ℕ
place n p = cond (ltb n p) [] (last_digit (n / p) ∷ [])

unfoldable pub decimal : ℕ → List ℕ
decimal n = place n 1000 ++ (place n 100 ++ (place n 10 ++ (last_digit n ∷ [])))

unfoldable pub power : ℕ → List ℕ
power f = cond (ltb f 1023) (112 ∷ 45 ∷ decimal (1023 - f)) (112 ∷ 43 ∷ decimal (f - 1023))

unfoldable pub leading : ℕ → List ℕ
leading e = 48 ∷ 120 ∷ cond (eqb e 0) 48 49 ∷ []

unfoldable pub scale : ℕ → ℕ → ℕ
scale e m = cond (eqb e 0) (cond (eqb m 0) 1023 1) e

unfoldable pub magnitude : ℕ → ℕ → List ℕ
magnitude e m = cond (ltb e 2047) (leading e ++ (pointed m ++ power (scale e m))) (cond (eqb m 0) (105 ∷ 110 ∷ 102 ∷ []) (110 ∷ 97 ∷ 110 ∷ []))

unfoldable pub sign : ℕ → List ℕ
sign b = cond (ltb b (2 ^ 63)) [] (45 ∷ [])

unfoldable pub text_of_bits : ℕ → List ℕ
text_of_bits b = sign b ++ magnitude (b / 2 ^ 52 % 2048) (b % 2 ^ 52)

unfoldable pub hex_float : Float → List ℕ
hex_float x = text_of_bits (to_bits binary64 x)

unfoldable pub spelling : Float → List ℕ → Outcome (List ℕ)
spelling x out = guard (leb 24 (length out)) 8 (done (hex_float x))

pub record Spells (x : Float) (out : List ℕ) (r : Result ℕ Refusal) (out' : List ℕ) : Type 0 where
  pub answer : outcome_of r ≡ map_done length (spelling x out)
  pub buffer : out' ≡ afterwards (spelling x out) out 0
