-- The exponent at the end of a number, step by step as the code reads it. Assumes nothing.
use Prim.Native.Nat.{ℕ, ◌≤◌, ◌<◌}
use native.Mathlib.Omega.{arith}
use mathlib.Core.Path.{◌≡◌, refl, sym, ap, ap₂, ◌∙◌}
use mathlib.Core.Bool.{Bool, true, false, not, cond}
use mathlib.Core.Logic.{◌⊎◌, ⊎_elim}
use mathlib.Core.List.{List, [], ◌∷◌}
use lib.ListN.{length, drop}
use borrow.Author.Tests.{lt-ltb, le-ltb, le-leb, lt-leb, ne_eqb}
use Rattle.text.specs.Numerals.{are_digits, numeral_from, numeral, byte_at, one_of}
use Rattle.fltext.specs.declared.FlonumError.{FlonumError}
use Rattle.std.specs.Prelude.{Ok, Err}
use Rattle.fltext.specs.Forms.{is_minus, sign_length, after_sign, is_letter, is_natural, exponent_digits, is_exponent, exponent, is_negative}
use Rattle.fltext.specs.Readings.{limit}
use Rattle.fltext.specs.Inner.{signed, exponent_of, exponent_reading}

-- ---- the letter

cond-id : (h : Bool) → h ≡ cond h true false
cond-id true = refl
cond-id false = refl

cond-not : (h : Bool) → not h ≡ cond h false true
cond-not true = refl
cond-not false = refl

cond-none : (h : Bool) → false ≡ cond h false false
cond-none true = refl
cond-none false = refl

letter-by : (h : Bool) (c : ℕ) {p e : Bool} → one_of 80 112 c ≡ p → one_of 69 101 c ≡ e → cond h p e ≡ is_letter h c
unfolding is_letter
letter-by h c k l = sym (ap₂ (cond h) k l)

pub letter-p : (h : Bool) (c : ℕ) → (c ≡ 80) ⊎ (c ≡ 112) → h ≡ is_letter h c
unfolding one_of
letter-p h c k = cond-id h ∙ letter-by h c (⊎_elim (λ e. ap (one_of 80 112) e) (λ e. ap (one_of 80 112) e) k) (⊎_elim (λ e. ap (one_of 69 101) e) (λ e. ap (one_of 69 101) e) k)

pub letter-e : (h : Bool) (c : ℕ) → (c ≡ 69) ⊎ (c ≡ 101) → not h ≡ is_letter h c
unfolding one_of
letter-e h c k = cond-not h ∙ letter-by h c (⊎_elim (λ e. ap (one_of 80 112) e) (λ e. ap (one_of 80 112) e) k) (⊎_elim (λ e. ap (one_of 69 101) e) (λ e. ap (one_of 69 101) e) k)

pub letter-none : (h : Bool) (c : ℕ) → one_of 80 112 c ≡ false → one_of 69 101 c ≡ false → false ≡ is_letter h c
letter-none h c k l = cond-none h ∙ letter-by h c k l

-- ---- digits

pub natural-empty : (cs : List ℕ) → length cs ≡ 0 → is_natural cs ≡ false
unfolding is_natural
natural-empty cs e = rw (le-ltb 0 (length cs) (omega arith)) refl

pub natural-by : (cs : List ℕ) {b : Bool} → (length cs ≡ 0 → ⊥) → are_digits 10 cs ≡ b → is_natural cs ≡ b
unfolding is_natural
natural-by cs h e = rw (lt-ltb 0 (length cs) (omega arith)) e

module _ (s : Bool) (cs : List ℕ) where
  pub exponent_of-malformed : is_natural cs ≡ false → exponent_of s cs ≡ Err FlonumError.Malformed
  unfolding exponent_of
  exponent_of-malformed e = rw e refl

  pub exponent_of-value : {n : ℕ} → is_natural cs ≡ true → numeral 10 cs ≡ n → n ≤ limit → exponent_of s cs ≡ Ok (signed s n)
  unfolding exponent_of
  exponent_of-value {n} e f h = rw (e, f, le-leb n limit h) refl

  pub exponent_of-long : is_natural cs ≡ true → limit < numeral 10 cs → exponent_of s cs ≡ Err FlonumError.TooLong
  unfolding exponent_of
  exponent_of-long e h = rw (e, lt-leb (numeral 10 cs) limit h) refl

-- ---- the whole exponent

pub reading-none : (h : Bool) (cs : List ℕ) → length cs ≡ 0 → exponent_reading h cs ≡ Ok (record { up = 0; down = 0 })
unfolding exponent_reading is_exponent exponent exponent_digits is_negative after_sign sign_length is_minus byte_at one_of numeral numeral_from signed
reading-none h [] e = refl
reading-none h (c ∷ cs) e = absurd (omega arith)

module _ (h : Bool) (cs : List ℕ) (l : length cs ≡ 0 → ⊥) where
  pub reading-other : is_letter h (byte_at cs 0) ≡ false → exponent_reading h cs ≡ Err FlonumError.Malformed
  unfolding exponent_reading is_exponent
  reading-other e = rw (ne_eqb (length cs) 0 l, e) refl

  pub reading-letter : is_letter h (byte_at cs 0) ≡ true → exponent_reading h cs ≡ exponent_of (is_minus (drop 1 cs)) (after_sign (drop 1 cs))
  unfolding exponent_reading exponent_of is_exponent exponent exponent_digits is_negative
  reading-letter e = rw (ne_eqb (length cs) 0 l, e) refl
