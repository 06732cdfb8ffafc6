-- What is spelled is read back as the same integer: `is_integer-spelled` and `integer-spelled` of the text of every integer, `read_back` of what
-- spelling puts into a buffer, and what the two calls that read answer for such a text. Assumes nothing.
use Prim.Native.Nat.{ℕ, zero, suc, ◌+◌, ◌*◌, ◌/◌, ◌%◌, ◌^◌, ◌≤◌, ◌<◌}
use native.Mathlib.Nat.{zero-mul, one-mul, pow-zero, pow-suc, mod-lt, div-add-mod', div-lt_iff_lt-mul}
use native.Mathlib.Omega.{arith}
use mathlib.Core.Path.{◌≡◌, refl, sym, ap, ap₂, ◌∙◌, subst}
use mathlib.Core.Bool.{Bool, true, false, ◌&&◌}
use mathlib.Core.List.{List, [], ◌∷◌, ◌++◌}
use lib.Dec.{lit<}
use lib.IntN.{ℤ, pos, nat_abs}
use lib.ListN.{length, take}
use borrow.Author.Tests.{lt-ltb, le-leb}
use Rattle.bits.specs.Testbit.{is_negative, fits}
use Rattle.words.specs.Sign.{with_sign}
use Rattle.bits.proofs.LengthLaws.{mag-lt}
use Rattle.words.proofs.SignedLaws.{with_sign-nat_abs}
use Rattle.outcomes.specs.Outcome.{Outcome, done}
use Rattle.outcomes.specs.Buffer.{afterwards, count_of}
use Rattle.outcomes.proofs.OutcomeLaws.{passed}
use Rattle.outcomes.proofs.BufferLaws.{laid-copy}
use Rattle.limbwords.specs.Value.{value, limb_count}
use Rattle.text.specs.Numerals.{between, digit, are_digits, numeral_from, numeral, byte_at, one_of, zero_base, prefix_base, is_hash, sign_at, is_minus, after_sign, base, is_hex, digits_from, is_integer, integer}
use Rattle.std.specs.Prelude.{Ok}
use Rattle.std.proofs.lemmas.Bool.Decides.{nat_tests}
use Rattle.text.specs.Readings.{reading, enough, limb_reading}
use Rattle.spelling.specs.Spellings.{glyph, digits, hex_length, spelled, has_capacity, spelling, Spells}
use Rattle.text.proofs.NumeralLaws.{pow-hex, are_digits-append, numeral-append}
use Rattle.spelling.proofs.DigitLaws.{length_digits}
use Rattle.spelling.proofs.BufferLaws.{dash}

-- ---- digits

-- the byte of a digit is that digit
digit_glyph : (d : ℕ) → d < 16 → digit (glyph d) ≡ d
unfolding glyph digit between
digit_glyph d h = grind (arith, nat_tests)

module _ (b : ℕ) (h : 0 < b) (l : b ≤ 16) where
  -- the last digit of n
  last : (n : ℕ) → digit (glyph (n % b)) ≡ n % b
  last n = digit_glyph (n % b) (omega (arith, mod-lt n h))

  are_digits-digits : (k n : ℕ) → are_digits b (digits b k n) ≡ true
  unfolding digits are_digits
  are_digits-digits zero n = refl
  are_digits-digits (suc k) n =
      are_digits-append b (digits b k (n / b)) (glyph (n % b) ∷ [])
      ∙ ap₂ ◌&&◌ (are_digits-digits k (n / b)) (ap (λ (t : Bool). t && true) (lt-ltb (digit (glyph (n % b))) b (omega (arith, last n, mod-lt n h))))

  -- enough digits of n are n
  numeral-digits : (k n : ℕ) → n < b ^ k → numeral b (digits b k n) ≡ n
  unfolding digits numeral numeral_from
  numeral-digits zero n g = omega (arith, pow-zero b)
  numeral-digits (suc k) n g =
      let above = numeral-digits k (n / b) ((div-lt_iff_lt-mul h).1 (subst (λ (m : ℕ). n < m) (pow-suc b k) g)) in
      let one : b ^ 1 ≡ b = pow-suc b 0 ∙ ap (λ (m : ℕ). m * b) (pow-zero b) ∙ one-mul b in
      numeral-append b (digits b k (n / b)) (glyph (n % b) ∷ [])
      ∙ ap₂ (λ (m p : ℕ). m * p + (0 * b + digit (glyph (n % b)))) above one
      ∙ omega (arith, last n, div-add-mod' n b, zero-mul b)

-- a number has no more digits than its length says
hex_length-enough : (n : ℕ) → n < 16 ^ hex_length n
unfolding hex_length
hex_length-enough n = subst (λ (m : ℕ). n < m) (sym (pow-hex (hex_length n))) (mag-lt (pos n) (4 * hex_length n) (omega arith))

-- ---- a text with 0x

abbrev text : Bool → List ℕ → List ℕ
text negative ds = dash negative ++ (48 ∷ 120 ∷ ds)

is_integer-text : (negative : Bool) (ds : List ℕ) → 0 < length ds → are_digits 16 ds ≡ true → is_integer (text negative ds) ≡ true
unfolding byte_at one_of zero_base prefix_base is_hash sign_at is_minus after_sign base digits_from is_integer
is_integer-text true ds h e = ap₂ ◌&&◌ (lt-ltb 3 (suc (suc (suc (length ds)))) (omega arith)) e
is_integer-text false ds h e = ap₂ ◌&&◌ (lt-ltb 2 (suc (suc (length ds))) (omega arith)) e

integer-text : (negative : Bool) (ds : List ℕ) → integer (text negative ds) ≡ with_sign negative (numeral 16 ds)
unfolding byte_at one_of zero_base prefix_base is_hash sign_at is_minus after_sign base digits_from integer
integer-text true ds = refl
integer-text false ds = refl

is_hex-text : (negative : Bool) (ds : List ℕ) → is_hex (text negative ds) ≡ true
unfolding byte_at one_of zero_base prefix_base is_hash sign_at is_minus after_sign base is_hex
is_hex-text true ds = refl
is_hex-text false ds = refl

enough-text : (negative : Bool) (ds : List ℕ) → enough (text negative ds) ≡ (length ds + 7) / 8 + 1
unfolding byte_at one_of zero_base prefix_base is_hash sign_at is_minus after_sign base is_hex digits_from enough
enough-text true ds = omega arith
enough-text false ds = omega arith

-- ---- the round trip

pub is_integer-spelled : (z : ℤ) → is_integer (spelled z) ≡ true
unfolding spelled hex_length
is_integer-spelled z =
    let k = hex_length (nat_abs z) in
    is_integer-text (is_negative z) (digits 16 k (nat_abs z)) (omega (arith, length_digits 16 k (nat_abs z))) (are_digits-digits 16 (lit< tt) (omega arith) k (nat_abs z))

pub integer-spelled : (z : ℤ) → integer (spelled z) ≡ z
unfolding spelled
integer-spelled z =
    let k = hex_length (nat_abs z) in
    integer-text (is_negative z) (digits 16 k (nat_abs z))
    ∙ ap (with_sign (is_negative z)) (numeral-digits 16 (lit< tt) (omega arith) k (nat_abs z) (hex_length-enough (nat_abs z)))
    ∙ with_sign-nat_abs z

-- what spelling puts at the start of a buffer
pub read_back : (xs out : List ℕ) (r : ℕ) (out' : List ℕ) → Spells xs out r out' → has_capacity xs out ≡ true
    → (is_integer (take r out') ≡ true) × (integer (take r out') ≡ value xs)
unfolding spelling count_of afterwards
read_back xs out r out' s h = (ap is_integer put ∙ is_integer-spelled (value xs), ap integer put ∙ integer-spelled (value xs))
  where
    is-spelling : spelling xs out ≡ done (spelled (value xs))
    is-spelling = passed 8 (done (spelled (value xs))) h

    put : take r out' ≡ spelled (value xs)
    put =
        ap₂ take (s.count ∙ ap count_of is-spelling) (s.buffer ∙ ap (λ (o : Outcome (List ℕ)). afterwards o out 0) is-spelling)
        ∙ laid-copy out 0 (spelled (value xs)) (omega arith)

-- ---- what the calls that read answer for it

pub reading-spelled : (z : ℤ) → fits 64 z ≡ true → reading (spelled z) ≡ Ok z
unfolding reading
reading-spelled z h = rw (is_integer-spelled z, integer-spelled z, h)

is_hex-spelled : (z : ℤ) → is_hex (spelled z) ≡ true
unfolding spelled
is_hex-spelled z = is_hex-text (is_negative z) (digits 16 (hex_length (nat_abs z)) (nat_abs z))

enough-spelled : (z : ℤ) → enough (spelled z) ≡ (hex_length (nat_abs z) + 7) / 8 + 1
unfolding spelled
enough-spelled z =
    let k = hex_length (nat_abs z) in
    enough-text (is_negative z) (digits 16 k (nat_abs z)) ∙ ap (λ (n : ℕ). (n + 7) / 8 + 1) (length_digits 16 k (nat_abs z))

pub limb_reading-spelled : (z : ℤ) (k : ℕ) → (hex_length (nat_abs z) + 7) / 8 + 1 ≤ k → limb_reading (spelled z) k ≡ Ok (limb_count z)
unfolding limb_reading
limb_reading-spelled z k h =
    let room = le-leb (enough (spelled z)) k (omega (arith, enough-spelled z)) in
    rw (is_integer-spelled z, integer-spelled z, is_hex-spelled z, room)
