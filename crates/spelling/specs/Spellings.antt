-- The text of an integer, and what spelling one answers. A text is a list of bytes, in ASCII.
--   glyph d              ==  the byte of a digit, in lower case
--   digits b k n         ==  the last k digits of n in base b, the most significant first
--   hex_length n          ==  how many hexadecimal digits n has, at least one
--   spelled z            ==  the text of an integer in hexadecimal: a - where it is negative, 0x, and no zero in front
--   has_capacity xs out   ==  whether there is a limb, and eight bytes for each limb and three more
--   spelling xs out      ==  the text of the integer; refusal 8 where the capacity is too small
--   Spells xs out r out' ==  r counts the bytes of that text, and they are now at the start of the buffer
use Rattle.std.specs.Prelude.{ℕ, zero, suc, ◌+◌, ◌*◌, ◌/◌, ◌%◌, max, ◌≡◌, Bool, cond, ◌&&◌, List, [], ◌∷◌, ◌++◌, leb, ltb, ℤ, pos, nat_abs, length}
use Rattle.bits.specs.Testbit.{is_negative, bit_length}
use Rattle.outcomes.specs.Outcome.{Outcome, done, guard}
use Rattle.outcomes.specs.Buffer.{afterwards, count_of}
use Rattle.limbwords.specs.Value.{value}

unfoldable pub glyph : ℕ → ℕ
glyph d = cond (ltb d 10) (48 + d) (87 + d)

unfoldable pub digits : ℕ → ℕ → ℕ → List ℕ
digits b zero n = []
digits b (suc k) n = digits b k (n / b) ++ (glyph (n % b) ∷ [])

unfoldable pub hex_length : ℕ → ℕ
hex_length n = max 1 ((bit_length (pos n) + 3) / 4)

unfoldable pub spelled : ℤ → List ℕ
spelled z = cond (is_negative z) (45 ∷ []) [] ++ (48 ∷ 120 ∷ digits 16 (hex_length (nat_abs z)) (nat_abs z))

unfoldable pub has_capacity : List ℕ → List ℕ → Bool
has_capacity xs out = ltb 0 (length xs) && leb (8 * length xs + 3) (length out)

unfoldable pub spelling : List ℕ → List ℕ → Outcome (List ℕ)
spelling xs out = guard (has_capacity xs out) 8 (done (spelled (value xs)))

pub record Spells (xs out : List ℕ) (r : ℕ) (out' : List ℕ) : Type 0 where
  pub count : r ≡ count_of (spelling xs out)
  pub buffer : out' ≡ afterwards (spelling xs out) out 0
